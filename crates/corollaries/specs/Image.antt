-- The image of a word.
--   image program p w      p composed with the maps of the letters of w, the last letter's first,
--                          and then with the start's map
use Rattle.std.specs.Prelude.{ℕ, List}
use Rattle.algebra.specs.Fraction.{Fraction}
use Rattle.polynomials.specs.Terms.{Terms}
use Rattle.loops.specs.Program.{Expr, Program}
use Rattle.loops.specs.Map.{start_map, composition}
use Rattle.rounds.specs.Word.{after_word}

abbrev pub image : {At : Type 0} → Program (Expr At) → Terms Fraction → List ℕ → Terms Fraction
image program p w = composition program (after_word program w p) (start_map program)
