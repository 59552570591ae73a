-- What the token at a cursor makes of a grammar, over any language of texts.
--   at_token       what holds whatever comes behind the token holds of what the cursor reads
--   fault_at why at, here k      the fault why at an offset; the token of the cursor k, as texts have it
--   sign_here      a sign is itself
--   genuine_name, genuine_number      a cursor's name is a plain word, and its number is below 2^127
--   named_here, no_name_here    whether a cursor stands at a name; behind_name: what stands behind it
--   fault_in g c y      why the lexeme y is at fault by the token g in the context c; after g s x: the state behind the token x
--   token_read          a token is taken; token_faulty: it is at fault; token_barred: it can't stand there
--                       taken, faulty, amiss: the same of a list of tokens
--   at_left, at_right, at_more, at_none     one of two ways, one more or no more, by the kind of the cursor's token
--   no_first            a sequence whose first part is refused
--   fault_told          an error that says what a token's fault is
use Rattle.std.proofs.Common.{◌≡◌, ℕ, ◌<◌, ◌^◌, List, ◌∷◌, sym, subst, arith, refl, ap, ap₂, ◌∙◌, true, nat_lt, IsTrue, Bool, false, not, if◌then◌else◌, Option, Some, None, Ok, Err, IfSome, option_map, []}
use Rattle.std.proofs.lemmas.Bool.Decides.{nat_tests}
use Rattle.program_text.specs.Words.{is_plain_word}
use Rattle.program_text.specs.Lexemes.{Placed, is_sign_of, Lexeme, tokens_from}
use Rattle.program_text.specs.Kinds.{a_name, no_kind, same, is_name}
use Rattle.program_text.specs.NextToken.{seen_lexeme, tokens_behind, is_genuine}
use Rattle.program_text.specs.declared.cursor.Cursor.{Cursor}
use Rattle.program_text.specs.CursorView.{rest, behind}
use Rattle.program_text.proofs.KindTests.{sign_is, unlike}
use Rattle.grammars.specs.Kinds.{has}
use Rattle.grammars.specs.Grammar.{State, token, sequence, either, many, after_token}
use Rattle.grammars.specs.First.{first, may_be_empty}
use Rattle.grammars.specs.Checked.{is_token, IsChecked}
use Rattle.poly_text.specs.Reasons.{Reason, syntax, Fault}
use Rattle.program_text.specs.Faults.{fault_of}
use Rattle.grammars.specs.Reader.{reads, refused}
use Rattle.grammars.proofs.Steps.{judged, parsed_token}
use Rattle.program_text.specs.Told.{Told, told}
use Rattle.program_text.specs.Telling.{TextLanguage, TextRule, reading}
use Rattle.program_text.specs.declared.error.ProgramTextError.{ProgramTextError}
use Rattle.program_text.proofs.Paths.{going_on, reading_sequence, reading_left, reading_right, reading_more, reading_none, IsFault, in_first}
use Rattle.program_text.specs.Lexemes as lexemes
use Rattle.program_text.specs.declared.lexemes.Lexeme as code
use Rattle.program_text.specs.declared.lexemes.Lexeme.TheVariants as code_lexeme
pub use Rattle.program_text.proofs.Paths.{GivesError}

module _ (c : Cursor) where
  pub at_token : (P : List Placed → Type 0) (l : code.Lexeme) → c.token.lexeme ≡ l
      → ((ts : List Placed) → P (record { at = c.token.at; lexeme = seen_lexeme l } ∷ ts))
      → P (rest c)
  at_token P l is h =
      subst (λ l. P (record { at = c.token.at; lexeme = seen_lexeme l } ∷ tokens_behind c.text.now
      (seen_lexeme l) c.token.end)) (sym is)
      (h (tokens_behind c.text.now (seen_lexeme l) c.token.end))

  pub sign_here : (b : ℕ) → is_sign_of (seen_lexeme c.token.lexeme) b ≡ true
      → seen_lexeme c.token.lexeme ≡ lexemes.sign b
  sign_here b e = sign_is (seen_lexeme c.token.lexeme) b e

  pub genuine_number : (v : ℕ) → c.token.lexeme ≡ code_lexeme.Number v → v < 2 ^ 127
  genuine_number v is = let e : nat_lt v (2 ^ 127) ≡ true = subst (λ l. IsTrue (is_genuine l)) is
      c.genuine in grind (arith, nat_tests)

  pub genuine_name : (w : _) → c.token.lexeme ≡ code_lexeme.Name w → IsTrue (is_plain_word w.now)
  genuine_name w is = subst (λ l. IsTrue (is_genuine l)) is c.genuine

  pub named_here : (w : _) → c.token.lexeme ≡ code_lexeme.Name w
      → is_name (seen_lexeme c.token.lexeme) ≡ true
  named_here w e = ap (λ l. is_name (seen_lexeme l)) e
      ∙ ap (λ t. has same (a_name ∷ []) (if t then a_name else no_kind)) (genuine_name w e)

  pub no_name_here : ((w : _) → c.token.lexeme ≡ code_lexeme.Name w → ⊥)
      → is_name (seen_lexeme c.token.lexeme) ≡ false
  no_name_here other = unlike (a_name ∷ []) c.token.lexeme refl (other, tt)

pub behind_name : (text : List ℕ) (x : Lexeme) (end : ℕ) → is_name x ≡ true
    → tokens_behind text x end ≡ tokens_from text end
behind_name text (lexemes.keyword k) end e = absurd (cc)
behind_name text lexemes.the_end end e = absurd (cc)
behind_name text x end e = refl

abbrev pub fault_at : {C V : Type 0} → Reason → ℕ → Told C V
fault_at why at = Err (record { reason = why; at = at })

abbrev pub here : Cursor → Placed
here k = record { at = k.token.at; lexeme = seen_lexeme k.token.lexeme }

module _ {N C V : Type 0} where
  abbrev pub fault_in : TextRule N C V → C → Lexeme → Option Reason
  fault_in (token ks fault next build) c y = fault c y
  fault_in g c y = None

  abbrev pub after : TextRule N C V → State C V → Placed → State C V
  after (token ks fault next build) s x = after_token next build s x
  after g s x = s

module _ {N C V : Type 0} (L : TextLanguage N C V) where
  -- ---- tokens
  module _ (g : TextRule N C V) (s : State C V) (x : Placed) (ts : List Placed) where
    abbrev by_token : Bool → Option Reason → Told C V
    by_token b f = told (if b then judged L f x (reads (after g s x) ts) else refused x None)

  by_kind : (g : TextRule N C V) (s : State C V) (x : Placed) (ts : List Placed) → is_token g ≡ true
      → reading L g s (x ∷ ts) ≡ by_token g s x ts (has L.same (first L g) (L.kind x.lexeme))
      (fault_in g s.context x.lexeme)
  unfolding reading
  by_kind (token ks fault next build) s x ts is =
      ap told (parsed_token L ks fault next build s x ts)
  by_kind g s x ts is = absurd (cc)

  module _ (g : TextRule N C V) (s : State C V) (x : Placed) (ts : List Placed) where
    pub taken : is_token g ≡ true → has L.same (first L g) (L.kind x.lexeme) ≡ true
        → fault_in g s.context x.lexeme ≡ None → Ok (after g s x, ts) ≡ reading L g s (x ∷ ts)
    taken is kind free = sym (by_kind g s x ts is ∙ ap₂ (by_token g s x ts) kind free)

    pub faulty : (why : Reason) → is_token g ≡ true → has L.same (first L g) (L.kind x.lexeme)
        ≡ true → fault_in g s.context x.lexeme ≡ Some why
        → fault_at why x.at ≡ reading L g s (x ∷ ts)
    faulty why is kind fault_is = sym (by_kind g s x ts is ∙ ap₂ (by_token g s x ts) kind fault_is)

    pub amiss : is_token g ≡ true → has L.same (first L g) (L.kind x.lexeme) ≡ false
        → fault_at syntax x.at ≡ reading L g s (x ∷ ts)
    amiss is kind = sym (by_kind g s x ts is
        ∙ ap (λ b. by_token g s x ts b (fault_in g s.context x.lexeme)) kind)

  module _ (g : TextRule N C V) (is : is_token g ≡ true) (s : State C V) (k : Cursor) where
    module _ (x : Lexeme) (seen : seen_lexeme k.token.lexeme ≡ x) (kind : has L.same (first L g)
        (L.kind x) ≡ true) where
      pub token_read : (d : Cursor) → tokens_behind k.text.now x k.token.end ≡ rest d
          → fault_in g s.context x ≡ None → Ok (
            after g s (record { at = k.token.at; lexeme = x }),
            rest d,
          ) ≡ reading L g s (rest k)
      token_read d next free =
          ap (λ ts. Ok (after g s (record { at = k.token.at; lexeme = x }), ts)) (sym next)
          ∙ taken g s (record { at = k.token.at; lexeme = x })
          (tokens_behind k.text.now x k.token.end) is kind free
          ∙ sym (ap (λ x. reading L g s (record { at = k.token.at; lexeme = x } ∷ tokens_behind
          k.text.now x k.token.end)) seen)

      pub token_faulty : (why : Reason) → fault_in g s.context x ≡ Some why
          → fault_at why k.token.at ≡ reading L g s (rest k)
      token_faulty why fault_is =
          faulty g s (record { at = k.token.at; lexeme = x })
          (tokens_behind k.text.now x k.token.end) why is kind fault_is
          ∙ sym (ap (λ x. reading L g s (record { at = k.token.at; lexeme = x } ∷ tokens_behind
          k.text.now x k.token.end)) seen)

    pub token_barred : has L.same (first L g) (L.kind (seen_lexeme k.token.lexeme)) ≡ false
        → fault_at syntax k.token.at ≡ reading L g s (rest k)
    token_barred kind = amiss g s (here k) (behind k) is kind

  -- two tokens that may both stand there, with the same fault, and lead to the same state
  pub as_token : (g h : TextRule N C V) (s : State C V) (k : Cursor) → is_token g ≡ true
      → is_token h ≡ true → has L.same (first L g) (L.kind (seen_lexeme k.token.lexeme)) ≡ true
      → has L.same (first L h) (L.kind (seen_lexeme k.token.lexeme)) ≡ true
      → fault_in g s.context (seen_lexeme k.token.lexeme) ≡ fault_in h s.context
      (seen_lexeme k.token.lexeme)
      → after g s (here k) ≡ after h s (here k) → reading L g s (rest k) ≡ reading L h s (rest k)
  as_token g h s k is it here_g here_h faults goes =
      by_kind g s (here k) (behind k) is
      ∙ ap₂ (by_token g s (here k) (behind k)) here_g faults
      ∙ ap (λ t. told (judged L (fault_in h s.context (seen_lexeme k.token.lexeme)) (here k)
      (reads t (behind k)))) goes
      ∙ sym (by_kind h s (here k) (behind k) it
      ∙ ap (λ b. by_token h s (here k) (behind k) b (fault_in h s.context (seen_lexeme
      k.token.lexeme))) here_h)

  -- ---- ways
  abbrev pub starts : TextRule N C V → Cursor → Bool
  starts g k = has L.same (first L g) (L.kind (seen_lexeme k.token.lexeme))

  module _ (g h : TextRule N C V) (s : State C V) (k : Cursor) where
    pub at_left : starts g k ≡ true → reading L (either g h) s (rest k) ≡ reading L g s (rest k)
    at_left e = reading_left L g h s (here k) (behind k) e

    pub at_right : starts g k ≡ false → reading L (either g h) s (rest k) ≡ reading L h s (rest k)
    at_right e = reading_right L g h s (here k) (behind k) e

  module _ (checked : IsChecked L) (g : TextRule N C V) (full : not (may_be_empty L g) ≡ true)
      (s : State C V) (k : Cursor) where
    pub at_more : starts g k ≡ true → (w : TextRule N C V) → reading L g s (rest k) ≡ reading L w s
        (rest k) → reading L (many g) s (rest k) ≡ reading L (sequence w (many g)) s (rest k)
    at_more e w way = reading_more L checked g full s (here k) (behind k) e
        ∙ sym (reading_sequence L g (many g) s (rest k))
        ∙ in_first L g (many g) s (rest k) w s (rest k) way

    pub at_none : starts g k ≡ false → Ok (s, rest k) ≡ reading L (many g) s (rest k)
    at_none e = sym (reading_none L checked g full s (here k) (behind k) e)

  -- ---- faults
  pub no_first : (g h : TextRule N C V) (s : State C V) (ts : List Placed) (f : Fault)
      → Err f ≡ reading L g s ts → Err f ≡ reading L (sequence g h) s ts
  no_first g h s ts f e = ap (λ (r : Told C V). going_on r (λ t rest. reading L h t rest)) e
      ∙ sym (reading_sequence L g h s ts)

-- an error that says what a token's fault is, if it has one
pub fault_told : {C V : Type 0} (e : ProgramTextError) (at : ℕ) (o : Option Reason) (y : Told C V)
    → fault_of e ≡ option_map (λ why. record { reason = why; at = at }) o
    → ((why : Reason) → o ≡ Some why → fault_at why at ≡ y) → IsFault e y
fault_told {C} {V} e at o y is h = subst (λ f. IfSome (option_map Err f) (λ (r : Told C V). r ≡ y))
    (sym is) (go o h)
  where
    go : (o : Option Reason) → ((why : Reason) → o ≡ Some why → fault_at why at ≡ y)
        → IfSome (option_map Err (option_map (λ why. record { reason = why; at = at }) o))
        (λ (r : Told C V). r ≡ y)
    go None h = tt
    go (Some why) h = h why refl
