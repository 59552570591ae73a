-- Reading by any language of texts, equation by equation and part by part.
--   going_on r f       the answer r, or where it reads up to some tokens, what comes next
--   reading_sequence, reading_rule, reading_change     of a sequence, a rule, a change
--   reading_left, reading_right, reading_more, reading_none     of the first or the second of two ways, of one more or no more
--   IsFault e x        the error e says the fault x; want of memory says nothing
--   fault_passes       what an error says of one answer it says of another
--   then_on            what comes behind a first part that was read
--   stopped            a fault of the first part
--   in_parts           a sequence in a sequence
--   in_first           a sequence whose first part is read as another
--   continued, continued_going     what is read elsewhere
--   GoesOn L g s ts h t us   reading g from the state s on is reading h from the state t on
--   start, on                so it begins, and goes on behind a first part that was read; over: by what reads the same
--   ends                     where the last part is read
--   GivesError result e      the result is the error e
--   stops, stops_going       an error at a first part, passed on; stops_last, stops_last_going: at the last part
use Rattle.std.proofs.Common.{◌≡◌, List, ◌∷◌, refl, ap, ◌∙◌, sym, subst, Bool, true, false, not, Ok, Err, if◌then◌else◌, Option, Some, None, Result, IfSome, option_map}
use Rattle.grammars.specs.Kinds.{has}
use Rattle.grammars.specs.Grammar.{State, change, sequence, either, many, rule, after_change}
use Rattle.grammars.specs.First.{first, may_be_empty}
use Rattle.grammars.specs.Reader.{ReadResult, reads, refused, unended, parsed}
use Rattle.grammars.specs.Checked.{IsChecked}
use Rattle.grammars.proofs.Steps.{and_then, parsed_change, parsed_sequence, parsed_either, parsed_many, parsed_rule}
use Rattle.poly_text.specs.Lexemes.{Lexeme, Placed}
use Rattle.poly_text.specs.Reasons.{Reason}
use Rattle.poly_text.specs.Told.{Told, told}
use Rattle.poly_text.specs.Telling.{TextLanguage, TextRule, reading, answer_by, goes_to, Reads, Goes}
use Rattle.poly_text.specs.Faults.{fault_of}
use Rattle.poly_text.specs.CursorView.{rest}
use Rattle.poly_text.specs.declared.error.TextError.{TextError}
use Rattle.poly_text.specs.declared.cursor.Cursor.{Cursor}

abbrev pub going_on : {C V : Type 0} → Told C V → (State C V → List Placed → Told C V) → Told C V
going_on (Ok r) f = f r.0 r.1
going_on (Err e) f = Err e

module _ {N C V : Type 0} (L : TextLanguage N C V) where
  abbrev TextAnswer : Type 0
  TextAnswer = ReadResult Lexeme C V Reason

  pub told-and_then : (a : TextAnswer) (f : State C V → List Placed → TextAnswer)
      → told (and_then L a f) ≡ going_on (told a) (λ t rest. told (f t rest))
  told-and_then (reads t rest) f = refl
  told-and_then (refused x why) f = refl
  told-and_then unended f = refl

  pub reading_sequence : (g h : TextRule N C V) (s : State C V) (ts : List Placed)
      → reading L (sequence g h) s ts ≡ going_on (reading L g s ts) (λ t rest. reading L h t rest)
  unfolding reading
  reading_sequence g h s ts = ap told (parsed_sequence L g h s ts) ∙ told-and_then (parsed L g s ts)
      (λ t rest. parsed L h t rest)

  pub reading_rule : IsChecked L → (n : N) (s : State C V) (ts : List Placed)
      → reading L (rule n) s ts ≡ reading L (L.says n s.context) s ts
  unfolding reading
  reading_rule checked n s ts = ap told (parsed_rule L checked n s ts)

  pub reading_change : (next : C → C) (build : C → V → V) (s : State C V) (x : Placed)
      (xs : List Placed)
      → reading L (change next build) s (x ∷ xs) ≡ Ok (after_change next build s, x ∷ xs)
  unfolding reading
  reading_change next build s x xs = ap told (parsed_change L next build s x xs)

  module _ (g h : TextRule N C V) (s : State C V) (x : Placed) (xs : List Placed) where
    pub reading_left : has L.same (first L g) (L.kind x.lexeme) ≡ true
        → reading L (either g h) s (x ∷ xs) ≡ reading L g s (x ∷ xs)
    unfolding reading
    reading_left e = ap told (parsed_either L g h s x xs)
        ∙ ap (λ b. told (if b then parsed L g s (x ∷ xs) else parsed L h s (x ∷ xs))) e

    pub reading_right : has L.same (first L g) (L.kind x.lexeme) ≡ false
        → reading L (either g h) s (x ∷ xs) ≡ reading L h s (x ∷ xs)
    unfolding reading
    reading_right e = ap told (parsed_either L g h s x xs)
        ∙ ap (λ b. told (if b then parsed L g s (x ∷ xs) else parsed L h s (x ∷ xs))) e

  module _ (checked : IsChecked L) (g : TextRule N C V) (full : not (may_be_empty L g) ≡ true)
      (s : State C V) (x : Placed) (xs : List Placed) where
    abbrev goes_more : Bool → TextAnswer
    goes_more b = if b then and_then L (parsed L g s (x ∷ xs)) (λ t rest. parsed L (many g) t rest)
        else reads s (x ∷ xs)

    pub reading_more : has L.same (first L g) (L.kind x.lexeme) ≡ true
        → reading L (many g) s (x ∷ xs) ≡ going_on (reading L g s (x ∷ xs)) (λ t rest.
        reading L (many g) t rest)
    unfolding reading
    reading_more e = ap told (parsed_many L checked g s x xs full) ∙ ap (λ b. told (goes_more b)) e
        ∙ told-and_then (parsed L g s (x ∷ xs)) (λ t rest. parsed L (many g) t rest)

    pub reading_none : has L.same (first L g) (L.kind x.lexeme) ≡ false
        → reading L (many g) s (x ∷ xs) ≡ Ok (s, x ∷ xs)
    unfolding reading
    reading_none e = ap told (parsed_many L checked g s x xs full) ∙ ap (λ b. told (goes_more b)) e

module _ {C V : Type 0} where
  abbrev pub IsFault : TextError → Told C V → Type 0
  IsFault e x = IfSome (option_map Err (fault_of e)) (λ (r : Told C V). r ≡ x)

-- a fault of x, if there is one, is one of y
pub fault_passes : {F A B : Type 0} (o : Option F) (x : Result A F) (y : Result B F)
    → ((f : F) → Err f ≡ x → Err f ≡ y) → IfSome (option_map Err o) (λ (r : Result A F). r ≡ x)
    → IfSome (option_map Err o) (λ (r : Result B F). r ≡ y)
fault_passes None x y more h = tt
fault_passes (Some f) x y more h = more f h

module _ {N C V : Type 0} (L : TextLanguage N C V) where
  -- what is read from where another cursor stands
  pub continued : {A : Type 0} (g h : TextRule N C V) (s t : State C V) (state : A → State C V)
      (c d : Cursor) (result : Result (A × Cursor) TextError)
      → reading L g s (rest c) ≡ reading L h t (rest d) → Reads L h t state d result
      → Reads L g s state c result
  continued g h s t state c d result e r =
      subst (λ y. IfSome (answer_by state result) (λ (told : Told C V). told ≡ y)) (sym e) r

  pub continued_going : (g h : TextRule N C V) (s t u : State C V) (c d : Cursor)
      (result : Result Cursor TextError)
      → reading L g s (rest c) ≡ reading L h t (rest d) → Goes L h t u d result
      → Goes L g s u c result
  continued_going g h s t u c d result e r =
      subst (λ y. IfSome (goes_to u result) (λ (told : Told C V). told ≡ y)) (sym e) r

module _ {N C V : Type 0} (L : TextLanguage N C V) (g h : TextRule N C V) (s : State C V)
    (ts : List Placed) where
  abbrev behind : Told C V → Told C V
  behind r = going_on r (λ t rest. reading L h t rest)

  pub then_on : (t : State C V) (us : List Placed) → Ok (t, us) ≡ reading L g s ts
      → reading L (sequence g h) s ts ≡ reading L h t us
  then_on t us e = reading_sequence L g h s ts ∙ sym (ap behind e)

  pub stopped : (e : TextError) → IsFault e (reading L g s ts)
      → IsFault e (reading L (sequence g h) s ts)
  stopped e p = fault_passes (fault_of e) (reading L g s ts) (reading L (sequence g h) s ts) (λ f k.
      sym (reading_sequence L g h s ts ∙ sym (ap behind k))) p

  -- a sequence whose first part is read as another one's
  pub in_first : (f : TextRule N C V) (t : State C V) (us : List Placed)
      → reading L g s ts ≡ reading L f t us → reading L (sequence g h) s ts
      ≡ reading L (sequence f h) t us
  in_first f t us e = reading_sequence L g h s ts ∙ ap behind e ∙ sym (reading_sequence L f h t us)

  pub in_parts : (k : TextRule N C V) → reading L (sequence (sequence g h) k) s ts
      ≡ reading L (sequence g (sequence h k)) s ts
  in_parts k =
      reading_sequence L (sequence g h) k s ts ∙ ap (λ r. going_on r (λ t rest. reading L k t rest))
      (reading_sequence L g h s ts)
      ∙ go (reading L g s ts) ∙ sym (reading_sequence L g (sequence h k) s ts)
    where
      go : (r : Told C V) → going_on (going_on r (λ t rest. reading L h t rest)) (λ t rest.
          reading L k t rest) ≡ going_on r (λ t rest. reading L (sequence h k) t rest)
      go (Ok r) = sym (reading_sequence L h k r.0 r.1)
      go (Err f) = refl

abbrev pub GivesError : {X : Type 0} → Result X TextError → TextError → Type 0
GivesError result e = (d : TextError) × (result ≡ Err d) × (d ≡ e)

module _ {N C V : Type 0} (L : TextLanguage N C V) where
  pub record GoesOn (g : TextRule N C V) (s : State C V) (ts : List Placed) (h : TextRule N C V)
      (t : State C V) (us : List Placed) : Type 0 where
    pub same : reading L g s ts ≡ reading L h t us

  pub start : (g : TextRule N C V) (s : State C V) (ts : List Placed) → GoesOn g s ts g s ts
  start g s ts = record { same = refl }

module _ {N C V : Type 0} {L : TextLanguage N C V} {g h : TextRule N C V} {s t : State C V}
    {ts us : List Placed} (so_far : GoesOn L g s ts h t us) where
  pub ends : {u : State C V} {vs : List Placed} → Ok (u, vs) ≡ reading L h t us
      → Ok (u, vs) ≡ reading L g s ts
  ends e = e ∙ sym so_far.same

  pub over : (f : TextRule N C V) (u : State C V) (vs : List Placed)
      → reading L h t us ≡ reading L f u vs → GoesOn L g s ts f u vs
  over f u vs e = record { same = so_far.same ∙ e }

  module _ {e : TextError} where
    pub stops_last : {A : Type 0} {result : Result (A × Cursor) TextError} (state : A → State C V)
        → GivesError result e → IsFault e (reading L h t us) → IfSome (answer_by state result)
        (λ (r : Told C V). r ≡ reading L g s ts)
    stops_last {result = result} state is p =
        subst (λ result. IfSome (answer_by state result) (λ (r : Told C V). r ≡ reading L g s ts))
        (sym (is.1 ∙ ap Err is.2)) (subst (IsFault e) (sym so_far.same) p)

    pub stops_last_going : {result : Result Cursor TextError} (u : State C V) → GivesError result e
        → IsFault e (reading L h t us) → IfSome (goes_to u result) (λ (r : Told C V).
        r ≡ reading L g s ts)
    stops_last_going {result = result} u is p =
        subst (λ result. IfSome (goes_to u result) (λ (r : Told C V). r ≡ reading L g s ts))
        (sym (is.1 ∙ ap Err is.2)) (subst (IsFault e) (sym so_far.same) p)

module _ {N C V : Type 0} {L : TextLanguage N C V} {g f h : TextRule N C V} {s t : State C V}
    {ts us : List Placed} (so_far : GoesOn L g s ts (sequence f h) t us) where
  pub on : {u : State C V} {vs : List Placed} → Ok (u, vs) ≡ reading L f t us
      → GoesOn L g s ts h u vs
  on {u} {vs} e = record { same = so_far.same ∙ then_on L f h t us u vs e }

  module _ {e : TextError} where
    pub stops : {A : Type 0} {result : Result (A × Cursor) TextError} (state : A → State C V)
        → GivesError result e → IsFault e (reading L f t us) → IfSome (answer_by state result)
        (λ (r : Told C V). r ≡ reading L g s ts)
    stops state is p = stops_last so_far state is (stopped L f h t us e p)

    pub stops_going : {result : Result Cursor TextError} (u : State C V) → GivesError result e
        → IsFault e (reading L f t us) → IfSome (goes_to u result) (λ (r : Told C V).
        r ≡ reading L g s ts)
    stops_going u is p = stops_last_going so_far u is (stopped L f h t us e p)
