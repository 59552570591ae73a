use Rattle.std.proofs.Common.{◌≡◌, ℕ, ◌+◌, List, Vec, vec_len, Ok, length, sym, ap, ◌∙◌, rules, arith}
use Rattle.std.specs.Prelude.{Option, codes}
use Rattle.std.specs.declared.alloc.Global.{Global}
use Rattle.std.proofs.lemmas.List.{length-map}
use Rattle.serde_json.specs.Data.{Data}
use Rattle.serde_json.specs.Find.{get}
use Rattle.serde_json.specs.View.{view}
use Rattle.algebra.specs.Fraction.{Fraction}
use Rattle.polynomials.specs.Order.{grevlex}
use Rattle.polynomials.specs.Terms.{Terms}
use Rattle.coprime_base.specs.Sizes.{sizes}
use Rattle.frac128.specs.declared.Whole.{Whole}
use Rattle.solvable_maps.specs.Iterations.{width}
use Rattle.cert_form.specs.Form.{Reading, on}
use Rattle.cert_form.specs.Path.{path_bytes, member_path}
use Rattle.cert_form.proofs.Each.{IfFault-map, passed}
use Rattle.cert_form.proofs.Paths.{member_is}
use Rattle.full_cert.specs.Tables.{row_at}
use Rattle.full_cert.specs.PartsForm.{member_by, base_at, polys_at, form_at}
use Rattle.cert_form.proofs.Documents.{on_read}
use Rattle.full_cert.proofs.Rest.{member_as, object_there}
use Rattle.full_cert.proofs.form.read_form.Goals as goal
use Rattle.full_cert.proofs.form.read_form.Goals.{In_ok-base}

wide : (r m : ℕ) → width r m ≡ 2 + (r + (r + m))
wide r m = omega arith

behind_base : (c : In_ok-base) → form_at c.args.variables (path_bytes c.args.path.now)
    (view c.args.value.now) ≡ on (λ polys. Ok (record {
      base = sizes c.in_ok-base.base.items;
      polys = polys;
    })) (polys_at c.args.variables (length (sizes c.in_ok-base.base.items))
    (path_bytes c.args.path.now) (view c.args.value.now))
behind_base c = object_there _ _ _ (search rules) ∙ on_read _ (member_as base_at _ (codes "base")
    (view c.args.value.now) (member_is _ _) c.get.ensures c.in_ok-base.ensures.reads)

polys_as : (m r : ℕ) (base : Vec Whole Global) (path : List ℕ) (d : Data) {q : List ℕ}
    {o : Option Data} {x : Reading (List (Terms Fraction))} → r ≡ vec_len base
    → q ≡ member_path path (codes "polys") → o ≡ get (codes "polys") d
    → row_at m grevlex (2 + (r + (r + m))) q o ≡ x
    → polys_at m (length (sizes base.items)) path d ≡ x
polys_as m r base path d many at is h =
    ap (λ n. polys_at m n path d) (length-map base.items _ ∙ sym base.ok.0 ∙ sym many)
    ∙ ap (λ w. member_by (row_at m grevlex w) path (codes "polys") d) (wide r m)
    ∙ member_as (row_at m grevlex (2 + (r + (r + m)))) path (codes "polys") d at is h

pub returns-in_err-polys-clause-reads : goal.returns-in_err-polys-clause-reads
returns-in_err-polys-clause-reads c = passed _ _ _ _ c.from_residual-in_err-polys.ensures.1
    (IfFault-map c.in_err-polys.field-0.0 (λ f h.
    behind_base (goal.at-returns-in_err-polys-clause-reads c).In_ok-base
    ∙ ap (on _) (polys_as c.args.variables _ c.in_ok-base.base _ (view c.args.value.now)
    c.len-numbers.ensures (member_is _ _) c.get-2.ensures h)) c.in_err-polys.ensures.reads)

pub returns-clause-reads : goal.returns-clause-reads
returns-clause-reads c = behind_base (goal.at-returns-clause-reads c).In_ok-base
    ∙ on_read _ (polys_as c.args.variables _ c.in_ok-base.base _ (view c.args.value.now)
    c.len-numbers.ensures (member_is _ _) c.get-2.ensures c.in_ok-polys.ensures.reads)
