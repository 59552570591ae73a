-- The value of a certificate, from the values of its parts.
--   document_is      it is written, and its polynomials are read back
use Rattle.std.proofs.Common.{◌≡◌, ℕ, List, length, ap, ap₂, subst, ◌∙◌}
use Rattle.std.specs.Prelude.{All, Vec}
use Rattle.std.specs.declared.alloc.Global.{Global}
use Rattle.serde_json.specs.Data.{string}
use Rattle.serde_json.specs.View.{view}
use Rattle.serde_json.specs.declared.value.Value.{Value}
use Rattle.loops.specs.Certificate.{Certificate}
use Rattle.cert_form.specs.Cert.{Polys, polys_in, blocks_in, IsSquare}
use Rattle.cert_form.specs.Written.{poly_data, list_data, block_data, document, document_of, IsReadBack, IsReadable, IsWritten}
use Rattle.cert_form.proofs.Kept.{AreSquare, are_square}

module _ (names : List (List ℕ)) (m : ℕ) (basis : Polys) (steps : Vec (Vec Polys Global) Global)
    (c : Certificate) (elements : polys_in basis ≡ c.basis) (blocks : blocks_in steps ≡ c.steps)
    (square : All (IsSquare m (length c.basis)) steps.items) where
  abbrev n : ℕ
  n = length c.basis

  square_steps : AreSquare n c.steps
  square_steps = subst (AreSquare n) blocks (are_square m n steps square)

  readable : All (IsReadBack names) (polys_in basis)
      → All (All (All (IsReadBack names))) (blocks_in steps) → IsReadable names c
  readable elements_read cofactors_read = record {
    elements = subst (All (IsReadBack names)) elements elements_read;
    cofactors = subst (All (All (All (IsReadBack names)))) blocks cofactors_read;
    heights = square_steps.heights;
    widths = square_steps.widths;
  }

  pub document_is : (b s w v : Value) → IsWritten (list_data (poly_data names))
      (All (IsReadBack names)) (polys_in basis) b → IsWritten (list_data (block_data names))
      (All (All (All (IsReadBack names)))) (blocks_in steps) s
      → view w ≡ list_data string names → view v ≡ document (view b) (view s) (view w)
      → IsWritten (document_of names) (IsReadable names) c v
  document_is b s w v first second third made = record {
    value = made
        ∙ ap₂ (λ x y. document x y (view w)) (first.value
        ∙ ap (list_data (poly_data names)) elements) (second.value
        ∙ ap (list_data (block_data names)) blocks)
        ∙ ap (document (list_data (poly_data names) c.basis) (list_data (block_data names) c.steps))
        third;
    holds = readable first.holds second.holds;
  }
