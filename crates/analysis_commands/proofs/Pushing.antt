-- Texts that are made part by part.
--   yes_pushed        the lines of cofactors
--   other_pushed      the name of one variable more
--   retold            the same text, said otherwise
use Rattle.std.proofs.Common.{◌≡◌, ℕ, ◌+◌, ◌<◌, List, [], ◌++◌, length, take, get_or, sym, ap, ◌∙◌, Result}
use Rattle.std.specs.Prelude.{Some, slice_get, codes}
use Rattle.std.specs.List.{flat_map}
use Rattle.std.specs.Result.{IfOk}
use Rattle.std.proofs.lemmas.List.Folds.{flat_map-map}
use Rattle.std.proofs.lemmas.Option.{get_or_from_slice_get}
use Rattle.std.proofs.lemmas.Result.{IfOk-weaker}
use Rattle.loop_model.specs.FracPoly.{FracPoly as Polynomial}
use Rattle.poly.specs.Seen.{terms_in, terms_each}
use Rattle.command_parts.specs.BasisTexts.{line}
use Rattle.command_parts.proofs.Pushing.{pushed_at}
use Rattle.analysis_commands.specs.AnalysisTexts.{cofactor_line, yes_text}
use Rattle.analysis_commands.specs.RefusalTexts.{name_of, listed_behind}

module _ (names : List (List ℕ)) where
  abbrev pub cofactor_of : Polynomial → List ℕ
  cofactor_of p = cofactor_line names (terms_in p)

  pub yes_pushed : (ps : List Polynomial) (text : List ℕ) → text ≡ line (codes "yes")
      ++ flat_map cofactor_of ps → text ≡ yes_text names (terms_each ps)
  yes_pushed ps text is = is
      ∙ ap (λ t. line (codes "yes") ++ t) (sym (flat_map-map (cofactor_line names) terms_in ps))

  pub other_pushed : (others : List ℕ) (i : ℕ) (name start text more : List ℕ) → i < length others
      → slice_get names (get_or others i 0) ≡ Some name
      → text ≡ start ++ listed_behind names (take i others) → more ≡ text ++ (codes ", " ++ name)
      → more ≡ start ++ listed_behind names (take (i + 1) others)
  other_pushed others i name start text more within at before is =
      pushed_at (λ j. codes ", " ++ name_of names j) others i 0 start text more within before
      (is ∙ ap (λ y. text ++ (codes ", " ++ y))
      (sym (get_or_from_slice_get names (get_or others i 0) name [] at)))

pub retold : {X E : Type 0} (view : X → List ℕ) (r : Result X E) (bytes said : List ℕ)
    → IfOk r (λ x. view x ≡ bytes) → bytes ≡ said → IfOk r (λ x. view x ≡ said)
retold view r bytes said h e = IfOk-weaker r (λ x. view x ≡ bytes) (λ x. view x ≡ said) (λ x is. is
    ∙ e) h
