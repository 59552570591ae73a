-- The certificate itself, in a full certificate.
--   kept_of     its polynomials have the variables that they should have, and each branch has as many cofactors
use Rattle.std.proofs.Common.{◌≡◌, ◌<◌, ℕ, length, get_or, sym, subst, ◌∙◌, arith}
use Rattle.std.specs.Prelude.{All, Vec, vec_len}
use Rattle.std.specs.declared.alloc.Global.{Global}
use Rattle.std.proofs.lemmas.List.{get_or-map, length-map}
use Rattle.loops.specs.Program.{Expr, Program}
use Rattle.poly.specs.Seen.{terms_in, terms_each}
use Rattle.cert_form.specs.Cert.{Polys, IsWellSized}
use Rattle.task_lists.specs.Rows.{rows_of}
use Rattle.corollaries.specs.Counts.{IsSquare as IsSquareTable, IsCounted}
use Rattle.task_lists.specs.Images.{IsFullIn}
use Rattle.task_lists.specs.View.{full_of}
use Rattle.task_lists.specs.declared.parts.FullCert.{FullCert}
use Rattle.cert_checker.proofs.StageSteps.{widths}

pub kept_of : {program : Program (Expr ℕ)} (c : FullCert) → IsFullIn (length program.names) c
    → IsCounted program (full_of c) → IsWellSized (length program.names) c.basis c.steps
kept_of c over counted = record {
  arities = over.basis;
  squares = λ b d l. record {
    height = height b d l;
    widths = widths _ (length c.basis.items) (vec_len c.basis)
        (subst (λ n. All (λ row. length row ≡ n) (rows_of (get_or c.steps.items b d).items)) size
        (table b d l).widths) (sym c.basis.ok.0);
    arities = over.steps b d l;
  };
}
  where
    size : length (terms_each c.basis.items) ≡ length c.basis.items
    size = length-map c.basis.items terms_in

    table : (b : ℕ) (d : Vec Polys Global) → b < length c.steps.items
        → IsSquareTable (length (terms_each c.basis.items))
        (rows_of (get_or c.steps.items b d).items)
    table b d l = subst (IsSquareTable (length (terms_each c.basis.items)))
        (get_or-map (λ s. rows_of s.items) c.steps.items b d (rows_of d.items) l)
        (counted.squares b (rows_of d.items)
        (let n = length-map c.steps.items (λ s. rows_of s.items) in omega (arith, l, n)))

    height : (b : ℕ) (d : Vec Polys Global) → b < length c.steps.items
        → vec_len (get_or c.steps.items b d) ≡ vec_len c.basis
    height b d l = (get_or c.steps.items b d).ok.0
        ∙ sym (length-map (get_or c.steps.items b d).items (λ r. terms_each r.items))
        ∙ (table b d l).height ∙ size ∙ sym c.basis.ok.0
