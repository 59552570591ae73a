-- The names that stand for variables.
--   told_long, told_unknown, told_found     what is wrong with a name, and with one that is among the names
--   target_fails, target_reads              a name that is at fault, and one that is read
--   target_barred                           another token
use Rattle.std.proofs.Common.{◌≡◌, ◌<◌, ◌≤◌, ℕ, Bool, List, [], ◌∷◌, length, refl, ap, sym, ◌∙◌, Option, Some, None, unwrap_or, Ok, if◌then◌else◌}
use Rattle.std.specs.Option.{option_map_or}
use Rattle.std.proofs.lemmas.Bool.{le-leb, lt-leb}
use Rattle.loops.specs.Limits.{most_bytes}
use Rattle.loop_model.specs.Names.{place_of}
use Rattle.poly_text.specs.Reasons.{Reason, syntax, limit, unknown, twice, or_else}
use Rattle.poly_text.specs.NameFaults as positions
use Rattle.program_text.specs.NameFaults.{look}
use Rattle.program_text.specs.Lexemes as lexemes
use Rattle.program_text.specs.Lexemes.{tokens_from}
use Rattle.program_text.specs.Kinds.{a_name}
use Rattle.program_text.specs.NextToken.{seen_lexeme}
use Rattle.program_text.specs.CursorView.{rest}
use Rattle.program_text.specs.declared.cursor.Cursor.{Cursor}
use Rattle.program_text.specs.declared.lexemes.Lexeme.TheVariants as code_lexeme
use Rattle.program_text.specs.Programs.{ProgramContext, ProgramValue, ProgramState, word, program_language}
use Rattle.program_text.specs.States.{reading, target_told, IsTarget}
use Rattle.program_text.proofs.CursorReads.{fault_at, token_read, token_faulty, token_barred, no_name_here}
use Rattle.program_text.proofs.PartSteps.{name_kind}

module _ (names : List (List ℕ)) (taken : List ℕ) (w : List ℕ) where
  abbrev taken_at : Option ℕ → Option Reason
  taken_at o = if positions.has taken (unwrap_or o 0) then Some twice else None

  abbrev looked : Option ℕ → Option Reason
  looked o = option_map_or (λ i. None) o (Some unknown)

  pub told_long : 32 < length w → target_told names taken w ≡ Some limit
  unfolding most_bytes
  told_long long = ap (λ b. or_else (if b then look names w else Some limit)
      (taken_at (place_of names w))) (lt-leb (length w) 32 long)

  module _ (short : length w ≤ 32) where
    told_short : target_told names taken w ≡ or_else (looked (place_of names w))
        (taken_at (place_of names w))
    unfolding most_bytes
    told_short = ap (λ b. or_else (if b then look names w else Some limit)
        (taken_at (place_of names w))) (le-leb (length w) 32 short)

    pub told_unknown : place_of names w ≡ None → target_told names taken w ≡ Some unknown
    told_unknown none = told_short ∙ ap (λ o. or_else (looked o) (taken_at o)) none

    pub told_found : (i : ℕ) → place_of names w ≡ Some i → (b : Bool) → positions.has taken i ≡ b
        → target_told names taken w ≡ (if b then Some twice else None)
    told_found i place b has = told_short ∙ ap (λ o. or_else (looked o) (taken_at o)) place
        ∙ ap (λ b. if b then Some twice else None) has

module _ {names : List (List ℕ)} {taken : List ℕ} {fault : ProgramContext → List ℕ → Option Reason}
    {next : ProgramContext → List ℕ → ProgramContext}
    {build : ProgramContext → List ℕ → ProgramValue → ProgramValue} {s : ProgramState}
    {after : ℕ → ProgramState} (is : IsTarget names taken fault next build s after) (k : Cursor)
    (w : _) (named : k.token.lexeme ≡ code_lexeme.Name w) where
  pub target_fails : (why : Reason) → target_told names taken w.now ≡ Some why
      → fault_at why k.token.at ≡ reading (word fault next build) s (rest k)
  target_fails why e = token_faulty program_language (word fault next build) refl s k
      (lexemes.name w.now) (ap seen_lexeme named) (name_kind (a_name ∷ []) k w named) why
      (is.faults w.now ∙ e)

  pub target_reads : (i : ℕ) → place_of names w.now ≡ Some i → target_told names taken w.now ≡ None
      → (d : Cursor) → tokens_from k.text.now k.token.end ≡ rest d
      → Ok (after i, rest d) ≡ reading (word fault next build) s (rest k)
  target_reads i place free d e =
      ap (λ o. Ok (after (unwrap_or o 0), rest d)) (sym place)
      ∙ ap (λ t. Ok (t, rest d)) (sym (is.goes w.now))
      ∙ token_read program_language (word fault next build) refl s k (lexemes.name w.now)
      (ap seen_lexeme named) (name_kind (a_name ∷ []) k w named) d e (is.faults w.now ∙ free)

pub target_barred : (fault : ProgramContext → List ℕ → Option Reason)
    (next : ProgramContext → List ℕ → ProgramContext)
    (build : ProgramContext → List ℕ → ProgramValue → ProgramValue) (s : ProgramState) (k : Cursor)
    → ((w : _) → k.token.lexeme ≡ code_lexeme.Name w → ⊥)
    → fault_at syntax k.token.at ≡ reading (word fault next build) s (rest k)
target_barred fault next build s k other = token_barred program_language (word fault next build)
    refl
    s k (no_name_here k other)
