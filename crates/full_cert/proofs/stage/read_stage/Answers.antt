use Rattle.std.proofs.Common.{◌≡◌, ◌+◌, Ok, length, refl, ap, ◌∙◌, rules}
use Rattle.std.specs.Prelude.{codes}
use Rattle.serde_json.specs.View.{view}
use Rattle.polynomials.specs.Order.{grevlex}
use Rattle.machines.specs.Elimination.{free_part}
use Rattle.poly.specs.Seen.{terms_each}
use Rattle.cert_form.specs.Form.{on}
use Rattle.cert_form.specs.Path.{path_bytes}
use Rattle.cert_form.proofs.Each.{IfFault-map, passed}
use Rattle.cert_form.proofs.Paths.{member_is}
use Rattle.corollaries.specs.Representation.{pairs_of}
use Rattle.corollaries.specs.Stage.{block_order}
use Rattle.task_lists.specs.Rows.{rows_of}
use Rattle.full_cert.specs.PartsForm.{member_by, stage_at}
use Rattle.full_cert.specs.Tables.{raws_at, table_at}
use Rattle.full_cert.proofs.Documents.{terms_count}
use Rattle.cert_form.proofs.Documents.{on_read}
use Rattle.full_cert.proofs.Rest.{member_as, table_as, object_there}
use Rattle.full_cert.proofs.stage.read_stage.Goals as goal
use Rattle.full_cert.proofs.stage.read_stage.Goals.{In_ok-pairs}

pub returns-in_err-pairs-clause-reads : goal.returns-in_err-pairs-clause-reads
returns-in_err-pairs-clause-reads c =
    let O = block_order c.args.front in
    let w = c.args.front + c.args.variables in
    let d = view c.args.value.now in
    let many : c.len-count.result ≡ length (terms_each c.in_ok-list.list.items) =
    search (rules, terms_count) in
    passed _ _ _ _ c.from_residual-in_err-pairs.ensures.1 (IfFault-map c.in_err-pairs.field-0.0
    (λ f h.
    object_there _ d _ (search rules)
    ∙ on_read _ (member_as (raws_at O w) _ (codes "list") d (member_is _ _) c.get.ensures
    c.in_ok-list.ensures.reads)
    ∙ on_read _ (table_as O w _ (codes "gens") d refl many (member_is _ _) c.get-rows.ensures
    c.in_ok-gens.ensures.reads)
    ∙ ap (on _) (table_as O w _ (codes "pairs") d (ap (λ n. length (pairs_of n)) many) many
    (member_is _ _) c.get-2.ensures h)) c.in_err-pairs.ensures.reads)

behind_pairs : (c : In_ok-pairs) → stage_at c.args.front c.args.variables c.args.gens
    (path_bytes c.args.path.now) (view c.args.value.now)
    ≡ on (λ out. on (λ links. Ok (record {
      list = terms_each c.in_ok-list.list.items;
      gens = rows_of c.in_ok-gens.gens.items;
      pairs = rows_of c.in_ok-pairs.pairs.items;
      out = out;
      links = links;
    })) (member_by (table_at (length (free_part c.args.front
    (terms_each c.in_ok-list.list.items))) (length out) grevlex c.args.variables)
    (path_bytes c.args.path.now) (codes "links") (view c.args.value.now)))
    (member_by (raws_at grevlex c.args.variables) (path_bytes c.args.path.now) (codes "out")
    (view c.args.value.now))
behind_pairs c =
    let O = block_order c.args.front in
    let w = c.args.front + c.args.variables in
    let d = view c.args.value.now in
    let many : c.len-count.result ≡ length (terms_each c.in_ok-list.list.items) =
    search (rules, terms_count) in
    object_there _ _ _ (search rules)
    ∙ on_read _ (member_as (raws_at O w) _ (codes "list") d (member_is _ _) c.get.ensures
    c.in_ok-list.ensures.reads)
    ∙ on_read _ (table_as O w _ (codes "gens") d refl many (member_is _ _) c.get-rows.ensures
    c.in_ok-gens.ensures.reads)
    ∙ on_read _ (table_as O w _ (codes "pairs") d (ap (λ n. length (pairs_of n)) many) many
    (member_is _ _) c.get-2.ensures c.in_ok-pairs.ensures.reads)

pub returns-in_err-out-clause-reads : goal.returns-in_err-out-clause-reads
returns-in_err-out-clause-reads c = passed _ _ _ _ c.from_residual-in_err-out.ensures.1
    (IfFault-map c.in_err-out.field-0.0 (λ f h.
    behind_pairs (goal.at-returns-in_err-out-clause-reads c).In_ok-pairs
    ∙ ap (on _) (member_as (raws_at grevlex c.args.variables) _ (codes "out")
    (view c.args.value.now) (member_is _ _) c.get-3.ensures h)) c.in_err-out.ensures.reads)

pub returns-in_err-links-clause-reads : goal.returns-in_err-links-clause-reads
returns-in_err-links-clause-reads c =
    let m = c.args.variables in
    let d = view c.args.value.now in
    let free : c.free_count-free.result ≡ length (free_part c.args.front (terms_each
    c.in_ok-list.list.items)) = search rules in
    let given : c.len.result ≡ length (terms_each c.in_ok-out.out.items) =
    search (rules, terms_count) in
    passed _ _ _ _ c.from_residual-in_err-links.ensures.1 (IfFault-map c.in_err-links.field-0.0
    (λ f h.
    behind_pairs (goal.at-returns-in_err-links-clause-reads c).In_ok-pairs
    ∙ on_read _ (member_as (raws_at grevlex m) _ (codes "out") d (member_is _ _) c.get-3.ensures
    c.in_ok-out.ensures.reads)
    ∙ ap (on _) (table_as grevlex m _ (codes "links") d free given (member_is _ _)
    c.get-rows-2.ensures h)) c.in_err-links.ensures.reads)

pub returns-clause-reads : goal.returns-clause-reads
returns-clause-reads c =
    let m = c.args.variables in
    let d = view c.args.value.now in
    let free : c.free_count-free.result ≡ length (free_part c.args.front (terms_each
    c.in_ok-list.list.items)) = search rules in
    let given : c.len.result ≡ length (terms_each c.in_ok-out.out.items) =
    search (rules, terms_count) in
    behind_pairs (goal.at-returns-clause-reads c).In_ok-pairs
    ∙ on_read _ (member_as (raws_at grevlex m) _ (codes "out") d (member_is _ _) c.get-3.ensures
    c.in_ok-out.ensures.reads)
    ∙ on_read _ (table_as grevlex m _ (codes "links") d free given (member_is _ _)
    c.get-rows-2.ensures c.in_ok-links.ensures.reads)
