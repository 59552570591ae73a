use Rattle.std.proofs.Common.{◌≡◌, ◌-◌, ◌∷◌, map, length, sym, subst, ap, ◌∙◌, rules, arith}
use Rattle.std.specs.Prelude.{All, vec_len}
use Rattle.serde_json.specs.View.{view}
use Rattle.cert_form.specs.Form.{on}
use Rattle.cert_form.specs.Cert.{HaveArity}
use Rattle.cert_form.proofs.Each.{IfFault-map, passed}
use Rattle.program_model.specs.GraphView.{graph_of}
use Rattle.program_checker.specs.Form.{cert_of, lists_from}
use Rattle.program_checker.proofs.CertDocuments.{behind_lists, opened, with_lists}
use Rattle.program_checker.proofs.ListReads.{counts_are, start_empty, lists_over}
use Rattle.program_checker.proofs.ReadCertificates.{read_same}
use Rattle.program_checker.proofs.read.read_value.Goals as goal
use Rattle.program_checker.proofs.read.read_value.Goals.{After-read_lists, In_ok-lists}

opens : (c : After-read_lists) → cert_of c.args.names.now (graph_of c.args.graph.now)
    (view c.args.value.now)
    ≡ on (behind_lists c.args.names.now (graph_of c.args.graph.now) (view c.args.value.now))
    (lists_from c.args.names.now (c.args.graph.now.nodes - 1) (view c.args.value.now))
opens c = opened c.args.names.now (graph_of c.args.graph.now) (view c.args.value.now) (search rules)
    (sym c.has_version.ensures ∙ c.if-not-has_version.false)
    (sym c.has_kind.ensures ∙ c.if-not-has_kind.false)
    (sym c.has_names.ensures ∙ c.if-not-has_names.false)

as_many : (c : In_ok-lists) → map vec_len c.in_ok-lists.lists.items
    ≡ 0 ∷ map length c.in_ok-lists.ensures.reads.raw
as_many c = counts_are (length c.args.names.now) c.in_ok-lists.lists.items _
    c.in_ok-lists.ensures.reads.alike

pub returns-in_err-steps : goal.returns-in_err-steps
returns-in_err-steps c =
    let at = (goal.at.returns-in_err-steps c).In_ok-lists in
    passed _ _ _ _ c.from_residual-in_err-steps.ensures.1
    (IfFault-map c.in_err-steps.field-0.0 (λ f h.
    opens (goal.at.returns-in_err-steps c).After-read_lists
    ∙ with_lists c.args.names.now (graph_of c.args.graph.now) (view c.args.value.now)
    c.in_ok-lists.ensures.reads.is _ (as_many at) ∙ ap (on _) h) c.in_err-steps.ensures.reads)

pub returns : goal.returns
returns c =
    let at = (goal.at.returns c).In_ok-lists in
    let lists = c.in_ok-lists.ensures.reads in
    let steps = c.in_ok-steps.ensures.reads in
    let n = length c.args.names.now in
    record {
      raw = record { lists = lists.raw; steps = steps.raw };
      is = opens (goal.at.returns c).After-read_lists
          ∙ with_lists c.args.names.now (graph_of c.args.graph.now) (view c.args.value.now)
          lists.is _ (as_many at) ∙ ap (on _) steps.is;
      alike = record {
        fits = record {
          nodes = let many = c.in_ok-lists.ensures.count in let some = c.requires.graph.start in
              omega (arith, many, some, c.in_ok-lists.lists.ok.0);
          start = start_empty n c.in_ok-lists.lists.items lists.raw lists.alike;
          lists = subst (λ m. All (HaveArity m) c.in_ok-lists.lists.items) c.requires.named
              (lists_over n c.in_ok-lists.lists.items _ lists.alike);
          steps = c.in_ok-steps.ensures.fits;
        };
        same = read_same (record {
          lists = c.in_ok-lists.lists;
          steps = c.in_ok-steps.steps;
        }) n (record { lists = lists.raw; steps = steps.raw }) lists.alike
            steps.alike;
      };
    }
