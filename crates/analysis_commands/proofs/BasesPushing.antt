-- The text of bases, one loop after another.
--   bases_push           that of the first bases, with one more
--   bases_more, read_more    the same of the program's bases, taken so far
use Rattle.std.proofs.Common.{◌≡◌, ℕ, suc, ◌+◌, ◌<◌, List, [], ◌∷◌, ◌++◌, take, get_or, length, sym, ap, subst, ◌∙◌, arith, All, append_assoc}
use Rattle.std.specs.Global.{Vec}
use Rattle.std.proofs.lemmas.List.{append-nil, map-append, take_more, length-take-le, length-map}
use Rattle.std.proofs.lemmas.List.Elements.{All-push}
use Rattle.algebra.specs.Fraction.{Fraction}
use Rattle.polynomials.specs.Terms.{Terms}
use Rattle.poly.specs.Seen.{terms_each}
use Rattle.loop_model.specs.FracPoly.{FracPoly}
use Rattle.command_parts.specs.BasisTexts.{basis_text}
use Rattle.command_parts.specs.ReadBack.{IsReadBack}
use Rattle.analysis_commands.specs.Lists.{lists_of}
use Rattle.analysis_commands.specs.ChainTexts.{part_line, bases_text}

pub bases_push : (names : List (List ℕ)) (j : ℕ) (gss : List (List (Terms Fraction)))
    (gs : List (Terms Fraction))
    → bases_text names j (gss ++ gs ∷ [])
    ≡ bases_text names j gss ++ (part_line (j + length gss) ++ basis_text names gs)
bases_push names j [] gs =
    ap (λ t. part_line j ++ t) (append-nil (basis_text names gs))
    ∙ ap (λ k. part_line k ++ basis_text names gs) (let q : j ≡ j + 0 = omega arith in q)
bases_push names j (hs ∷ gss) gs =
    ap (λ t. part_line j ++ (basis_text names hs ++ t)) (bases_push names (suc j) gss gs)
    ∙ ap (λ k. part_line j ++ (basis_text names hs
    ++ (bases_text names (suc j) gss ++ (part_line k ++ basis_text names gs))))
    (let q : suc j + length gss ≡ j + suc (length gss) = omega arith in q)
    ∙ ap (λ t. part_line j ++ t) (sym (append_assoc (basis_text names hs)
    (bases_text names (suc j) gss) (part_line (j + suc (length gss)) ++ basis_text names gs)))
    ∙ sym (append_assoc (part_line j) (basis_text names hs ++ bases_text names (suc j) gss)
    (part_line (j + suc (length gss)) ++ basis_text names gs))

module _ (names : List (List ℕ)) (bases : List (Vec FracPoly)) (i : ℕ) (b : Vec FracPoly)
    (within : i < length bases) (is : b ≡ get_or bases i b) where
  lists_more : lists_of (take (i + 1) bases)
      ≡ lists_of (take i bases) ++ terms_each b.items ∷ []
  lists_more =
      ap lists_of (take_more bases i b within)
      ∙ map-append (λ (b : Vec FracPoly). terms_each b.items) (take i bases) (get_or bases i b ∷ [])
      ∙ ap (λ (x : Vec FracPoly). lists_of (take i bases) ++ terms_each x.items ∷ []) (sym is)

  pub bases_more : (text more : List ℕ) → text ≡ bases_text names 0 (lists_of (take i bases))
      → more ≡ text ++ (part_line i ++ basis_text names (terms_each b.items))
      → more ≡ bases_text names 0 (lists_of (take (i + 1) bases))
  bases_more text more before pushed =
      let n : 0 + length (lists_of (take i bases)) ≡ i =
      (let a = length-map (take i bases) (λ (b : Vec FracPoly). terms_each b.items) in
      let l = length-take-le i bases (omega (arith, within)) in omega (arith, a, l)) in
      pushed ∙ ap (λ t. t ++ (part_line i ++ basis_text names (terms_each b.items))) before
      ∙ ap (λ k. bases_text names 0 (lists_of (take i bases))
      ++ (part_line k ++ basis_text names (terms_each b.items))) (sym n)
      ∙ sym (bases_push names 0 (lists_of (take i bases)) (terms_each b.items))
      ∙ ap (bases_text names 0) (sym lists_more)

  pub read_more : All (IsReadBack names) (lists_of (take i bases))
      → IsReadBack names (terms_each b.items)
      → All (IsReadBack names) (lists_of (take (i + 1) bases))
  read_more before here =
      subst (All (IsReadBack names)) (sym lists_more)
      (All-push (IsReadBack names) (lists_of (take i bases)) (terms_each b.items) before here)
