-- How a list of tokens is read by grammars, one behind the other: the kind of the next token tells which way to go.
--   Move             a token is taken, with a fault or none, to a state, and these grammars are still due; or all that is due is left out
--                    before it; or it can't stand there
--   on inner g gs s x skip     what the token x does in the state s where g is due and gs behind it, and `skip` where g is left out; `inner` opens rules
--   move gs s x      what x does where gs are due
--   ReadResult           the state at the end with the tokens behind; or a token that is at fault for a reason, or, with none, can't stand there; or no token is left
--   read gs s ts     the answer for the tokens ts; read_whole gs s ts: where all of them are to be read; parsed g s ts: of one grammar
use Rattle.std.specs.Prelude.{List, [], ◌∷◌, Option, Some, None, if◌then◌else◌}
use Rattle.grammars.specs.Kinds.{has}
use Rattle.grammars.specs.Grammar.{Placed, State, Grammar, token, change, sequence, either, many, rule, Language, after_token, after_change}
use Rattle.grammars.specs.First.{first}

pub data Move (N K Y C V R : Type 0) : Type 0 where
  takes : Option R → State C V → List (Grammar N K Y C V R) → Move N K Y C V R
  leaves : State C V → Move N K Y C V R
  refuses : Move N K Y C V R

pub data ReadResult (Y C V R : Type 0) : Type 0 where
  reads : State C V → List (Placed Y) → ReadResult Y C V R
  refused : Placed Y → Option R → ReadResult Y C V R
  unended : ReadResult Y C V R

module _ {N K Y C V R : Type 0} (L : Language N K Y C V R) where
  abbrev pub Opening : Type 0
  Opening = N → List (Grammar N K Y C V R) → State C V → Placed Y → (State C V → Move N K Y C V R)
      → Move N K Y C V R

  abbrev pub on : Opening → Grammar N K Y C V R → List (Grammar N K Y C V R) → State C V → Placed Y
      → (State C V → Move N K Y C V R) → Move N K Y C V R
  on inner (token ks fault next build) gs s x skip =
      if has L.same ks (L.kind x.lexeme)
      then takes (fault s.context x.lexeme) (after_token next build s x) gs else refuses
  on inner (change next build) gs s x skip = skip (after_change next build s)
  on inner (sequence g h) gs s x skip = on inner g (h ∷ gs) s x (λ t. on inner h gs t x skip)
  on inner (either g h) gs s x skip =
      if has L.same (first L g) (L.kind x.lexeme) then on inner g gs s x skip
      else on inner h gs s x skip
  on inner (many g) gs s x skip =
      if has L.same (first L g) (L.kind x.lexeme) then on inner g (many g ∷ gs) s x skip else skip s
  on inner (rule n) gs s x skip = inner n gs s x skip

  -- what a rule says begins with no rule
  abbrev pub closed : Opening
  closed n gs s x skip = refuses

  abbrev pub opened : Opening
  opened n gs s x skip = on closed (L.says n s.context) gs s x skip

  abbrev pub move : List (Grammar N K Y C V R) → State C V → Placed Y → Move N K Y C V R
  move [] s x = leaves s
  move (g ∷ gs) s x = on opened g gs s x (λ t. move gs t x)

  abbrev pub by_move : Move N K Y C V R → Placed Y → List (Placed Y)
      → (State C V → List (Grammar N K Y C V R) → ReadResult Y C V R) → ReadResult Y C V R
  by_move (takes None s gs) x xs later = later s gs
  by_move (takes (Some why) s gs) x xs later = refused x (Some why)
  by_move (leaves s) x xs later = reads s (x ∷ xs)
  by_move refuses x xs later = refused x None

  abbrev pub at_end : List (Grammar N K Y C V R) → State C V → ReadResult Y C V R
  at_end [] s = reads s []
  at_end (g ∷ gs) s = unended

  unfoldable pub read : List (Grammar N K Y C V R) → State C V → List (Placed Y)
      → ReadResult Y C V R
  read gs s [] = at_end gs s
  read gs s (x ∷ xs) = by_move (move gs s x) x xs (λ t hs. read hs t xs)

  abbrev pub at_text_end : ReadResult Y C V R → ReadResult Y C V R
  at_text_end (reads t []) = reads t []
  at_text_end (reads t (x ∷ xs)) = refused x None
  at_text_end (refused x why) = refused x why
  at_text_end unended = unended

  abbrev pub read_whole : List (Grammar N K Y C V R) → State C V → List (Placed Y)
      → ReadResult Y C V R
  read_whole gs s ts = at_text_end (read gs s ts)

  abbrev pub parsed : Grammar N K Y C V R → State C V → List (Placed Y) → ReadResult Y C V R
  parsed g s ts = read (g ∷ []) s ts
