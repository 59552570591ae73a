-- What is read up to the end of a text.
--   whole_told r      the answer r, if nothing is left behind it
--   whole_reading     what is read by g and then by h, up to the end
use Rattle.std.proofs.Common.{◌≡◌, List, [], ◌∷◌, refl, sym, ap, ◌∙◌, Ok, Err}
use Rattle.grammars.specs.Grammar.{State, sequence}
use Rattle.grammars.specs.Reader.{ReadResult, reads, refused, unended, at_text_end, read_whole, parsed}
use Rattle.grammars.proofs.Steps.{read_then, parsed_sequence}
use Rattle.poly_text.specs.Reasons.{Reason, syntax}
use Rattle.program_text.specs.Lexemes.{Lexeme, Placed}
use Rattle.program_text.specs.Told.{Told, told}
use Rattle.program_text.specs.Telling.{TextLanguage, TextRule, reading}

module _ {C V : Type 0} where
  abbrev up_to_end : State C V → List Placed → Told C V
  up_to_end t [] = Ok (t, [])
  up_to_end t (x ∷ xs) = Err (record { reason = syntax; at = x.at })

  abbrev pub whole_told : Told C V → Told C V
  whole_told (Ok r) = up_to_end r.0 r.1
  whole_told (Err f) = Err f

module _ {N C V : Type 0} (L : TextLanguage N C V) where
  told-ended : (a : ReadResult Lexeme C V Reason) → told (at_text_end L a) ≡ whole_told (told a)
  told-ended (reads t []) = refl
  told-ended (reads t (x ∷ xs)) = refl
  told-ended (refused x why) = refl
  told-ended unended = refl

  pub whole_reading : (g h : TextRule N C V) (s : State C V) (ts : List Placed)
      → told (read_whole L (g ∷ h ∷ []) s ts) ≡ whole_told (reading L (sequence g h) s ts)
  unfolding reading
  whole_reading g h s ts = ap (λ a. told (at_text_end L a)) (read_then L (h ∷ []) ts (g ∷ []) s
      ∙ sym (parsed_sequence L g h s ts)) ∙ told-ended (parsed L (sequence g h) s ts)
