-- Lists of names.
use Rattle.std.proofs.Common.{◌≡◌, ◌≢◌, ℕ, zero, suc, ◌+◌, ◌<◌, ◌≤◌, List, [], ◌∷◌, ◌++◌, refl, ap, sym, ◌∙◌, subst, get_or, length, drop, true, false, arith, Global, length-append}
use Rattle.std.proofs.lemmas.Bool.Decides.{nat_tests}
use Rattle.std.proofs.lemmas.Iterator.Adapters.{position_from-zero}
use Rattle.std.proofs.lemmas.List.Elements.{All-push}
use Rattle.std.proofs.lemmas.List.Quantifiers.{all_pairs_push}
use Rattle.std.proofs.lemmas.Str.{IsUtf8-from_ascii, IsUtf8-string_bytes}
use Rattle.std.specs.Prelude.{Bool, ◌||◌, Option, Some, None, if◌then◌else◌, IsTrue, map, position, string_bytes, String, ◌==◌, is_none, is_some, not, Result, Ok, Err, MatchResult, IsOk}
use Rattle.std.specs.List.{position_from, list_any, list_all}
use Rattle.std.specs.Str.{bytes_eq, IsUtf8, IsAscii}
use Rattle.std.specs.String.{string_eq}
use Rattle.std.proofs.lemmas.List.{map-append, drop_all}
use Rattle.std.specs.Char.{is_ascii_alphabetic}
use Rattle.std.specs.Int.{is_in_range}
use Rattle.std.proofs.lemmas.Bool.{and_parts}
use Rattle.loops.specs.Limits.{most_bytes}
use Rattle.loop_model.specs.Words.{is_word, is_word_text, is_plain_word, keyword_of}
use Rattle.monos.specs.Variables.{most_variables}
use Rattle.loop_model.specs.Names.{place_of, AreNames, NameFault, twice, bad, is_name, fault_behind}
use Rattle.loop_model.proofs.Places.{bytes_same, bytes_eq-refl, none-passes, place_within, place_stands}
use Rattle.loop_model.proofs.Positions.{position-map}

-- the test of bytes goes both ways
bytes_eq-turned : (x y : List ℕ) → bytes_eq x y ≡ bytes_eq y x
bytes_eq-turned x y = go (bytes_eq x y) (bytes_eq y x) refl refl
  where
    go : (b c : Bool) → bytes_eq x y ≡ b → bytes_eq y x ≡ c → b ≡ c
    go true true e f = refl
    go true false e f = let same : bytes_eq y x ≡ true = subst (λ z. bytes_eq z x ≡ true)
        (bytes_same x y e) (bytes_eq-refl x) in absurd (cc)
    go false true e f = let same : bytes_eq x y ≡ true = subst (λ z. bytes_eq z y ≡ true)
        (bytes_same y x f) (bytes_eq-refl y) in absurd (cc)
    go false false e f = refl

-- a look-up by text is one by bytes
pub place-of_texts : (w : List ℕ) (texts : List (String Global))
    → position (λ n. bytes_eq w (string_bytes n)) texts ≡ place_of (map string_bytes texts) w
place-of_texts w texts = (λ j. position (λ n. bytes_eq-turned w (string_bytes n) j) texts)
    ∙ position-map (λ n. bytes_eq n w) string_bytes texts

text-here : (texts : List (String Global)) (i : ℕ) → i < length (map string_bytes texts)
    → IsUtf8 (get_or (map string_bytes texts) i [])
text-here [] i within = absurd (omega arith)
text-here (t ∷ ts) zero within = IsUtf8-string_bytes t
text-here (t ∷ ts) (suc i) within = text-here ts i (omega arith)

-- bytes that are no text are the bytes of none
pub no-text : (w : List ℕ) (texts : List (String Global)) → (IsUtf8 w → ⊥)
    → None ≡ place_of (map string_bytes texts) w
no-text w texts none = go (place_of (map string_bytes texts) w) refl
  where
    go : (o : Option ℕ) → place_of (map string_bytes texts) w ≡ o → None ≡ o
    go None e = refl
    go (Some i) e =
        absurd (none (subst IsUtf8 (place_stands (map string_bytes texts) w i e)
        (text-here texts i (place_within (map string_bytes texts) w i e))))

none-here : {X : Type 0} (p : X → Bool) (i : ℕ) (xs : List X) → position_from p i xs ≡ None
    → (k : ℕ) (d : X) → k < length xs → p (get_or xs k d) ≡ false
none-here p i [] e k d within = absurd (omega arith)
none-here p i (x ∷ xs) e zero d within = go (p x) refl e
  where
    go : (b : Bool) → p x ≡ b → (if b then Some i else position_from p (i + 1) xs) ≡ None
        → p x ≡ false
    go true f e = absurd (cc)
    go false f e = f
none-here p i (x ∷ xs) e (suc k) d within = none-here p (i + 1) xs (go (p x) e) k d (omega arith)
  where
    go : (b : Bool) → (if b then Some i else position_from p (i + 1) xs) ≡ None
        → position_from p (i + 1) xs ≡ None
    go true e = absurd (cc)
    go false e = e

pub place-none : (names : List (List ℕ)) (w : List ℕ) → place_of names w ≡ None
    → (k : ℕ) (d : List ℕ) → k < length names → get_or names k d ≢ w
place-none names w e k d within is =
    let apart : bytes_eq (get_or names k d) w ≡ false = none-here (λ n. bytes_eq n w) 0 names
    (sym (position_from-zero (λ n. bytes_eq n w) names) ∙ e) k d within in
    let same : bytes_eq (get_or names k d) w ≡ true = subst (λ z. bytes_eq z w ≡ true) (sym is)
    (bytes_eq-refl w) in absurd (cc)

-- one name more
pub AreNames-push : (names : List (List ℕ)) (w : List ℕ) → AreNames names → IsTrue (is_plain_word w)
    → length w ≤ most_bytes → place_of names w ≡ None → length names < most_variables
    → AreNames (names ++ w ∷ [])
AreNames-push names w are plain short other room = record {
  plain = All-push (λ w. IsTrue (is_plain_word w)) names w are.plain plain;
  short = All-push (λ w. length w ≤ most_bytes) names w are.short short;
  differ = all_pairs_push (λ v w. v ≢ w) names w are.differ (λ k d within.
      place-none names w other k d within);
  few = omega (arith, length-append names (w ∷ []));
}

range-le : (a b c : ℕ) → is_in_range a b c ≡ true → c ≤ b
range-le a b c within = grind (arith, nat_tests)

letter-ascii : (c : ℕ) → is_ascii_alphabetic c ≡ true → c < 128
letter-ascii c letter = go (is_in_range 65 90 c) (is_in_range 97 122 c) (range-le 65 90 c)
    (range-le 97 122 c) letter
  where
    go : (upper lower : Bool) → (upper ≡ true → c ≤ 90) → (lower ≡ true → c ≤ 122)
        → (upper || lower) ≡ true → c < 128
    go true lower up low is = let le : c ≤ 90 = up refl in omega arith
    go false true up low is = let le : c ≤ 122 = low refl in omega arith
    go false false up low is = absurd (cc)

word-ascii : (c : ℕ) → is_word c ≡ true → c < 128
word-ascii c word = go (is_in_range 48 57 c) (is_in_range 65 90 c) (is_in_range 97 122 c) (c == 95)
    (range-le 48 57 c) (range-le 65 90 c) (range-le 97 122 c) (λ e. grind (arith, nat_tests)) word
  where
    go : (digit upper lower underscore : Bool) → (digit ≡ true → c ≤ 57) → (upper ≡ true → c ≤ 90)
        → (lower ≡ true → c ≤ 122) → (underscore ≡ true → c ≡ 95)
        → ((digit || upper) || lower || underscore) ≡ true → c < 128
    go true upper lower underscore d u l s is = let le : c ≤ 57 = d refl in omega arith
    go false true lower underscore d u l s is = let le : c ≤ 90 = u refl in omega arith
    go false false true underscore d u l s is = let le : c ≤ 122 = l refl in omega arith
    go false false false true d u l s is = let e : c ≡ 95 = s refl in omega arith
    go false false false false d u l s is = absurd (cc)

words-ascii : (cs : List ℕ) → list_all is_word cs ≡ true → IsAscii cs
words-ascii [] words i = omega arith
words-ascii (c ∷ cs) words zero = word-ascii c (and_parts (is_word c) (list_all is_word cs) words).0
words-ascii (c ∷ cs) words (suc i) = words-ascii cs (and_parts (is_word c) (list_all is_word cs)
    words).1 i

plain-ascii : (w : List ℕ) → is_word_text w ≡ true → IsAscii w
plain-ascii [] word i = absurd (cc)
plain-ascii (c ∷ cs) word zero =
    letter-ascii c (and_parts (is_ascii_alphabetic c) (list_all is_word cs) word).0
plain-ascii (c ∷ cs) word (suc i) =
    words-ascii cs (and_parts (is_ascii_alphabetic c) (list_all is_word cs) word).1 i

-- a word is text
pub plain-utf8 : (w : List ℕ) → IsTrue (is_plain_word w) → IsUtf8 w
plain-utf8 w plain =
    IsUtf8-from_ascii w (plain-ascii w (and_parts (is_word_text w) (is_none (keyword_of w))
    plain).0)

pub taken-text : {A E : Type 0} (U : Type 0) (P : A → Type 0) (Q : E → Type 0) (r : Result A E)
    → MatchResult r P (λ e. (¬ U) × Q e) → U → IsOk r
taken-text U P Q (Ok a) h u = refl
taken-text U P Q (Err e) h u = absurd (h.0 u)

pub match-ok : {A E : Type 0} (P : A → Type 0) (Q : E → Type 0) (r : Result A E) (a : A)
    → MatchResult r P Q → r ≡ Ok a → P a
match-ok P Q r a h e = subst (λ s. MatchResult s P Q) e h

-- a name that isn't there goes last
pub texts-push : (texts news : List (String Global)) (t : String Global) (w : List ℕ)
    → string_bytes t ≡ w → place_of (map string_bytes texts) w ≡ None
    → news ≡ (if list_any (string_eq t) texts then texts else texts ++ t ∷ [])
    → map string_bytes news ≡ map string_bytes texts ++ w ∷ []
texts-push texts news t w is other are =
    let absent : list_any (λ n. bytes_eq w (string_bytes n)) texts ≡ false =
    none-passes (λ n. bytes_eq w (string_bytes n)) 0 texts
    (sym (position_from-zero (λ n. bytes_eq w (string_bytes n)) texts) ∙ place-of_texts w texts
    ∙ other) in
    let new : list_any (string_eq t) texts ≡ false =
    subst (λ v. list_any (λ n. bytes_eq v (string_bytes n)) texts ≡ false) (sym is) absent in
    ap (map string_bytes) (are ∙ ap (λ b. if b then texts else texts ++ t ∷ []) new)
    ∙ map-append string_bytes texts (t ∷ []) ∙ ap (λ v. map string_bytes texts ++ v ∷ []) is

-- the first fault of a list, name by name
module _ (before : List (List ℕ)) (w : List ℕ) (ws : List (List ℕ)) where
  fault_by : (name : Bool) (there : Bool) → Option NameFault
  fault_by name there = if not name then Some (bad (length before))
      else (if there then Some (twice (length before)) else fault_behind (before ++ w ∷ []) ws)

  fault_behind-cons : fault_behind before (w ∷ ws) ≡ fault_by (is_name w)
      (is_some (place_of before w))
  unfolding fault_by fault_behind
  fault_behind-cons = refl

  by-bad : (there : Bool) → fault_by false there ≡ Some (bad (length before))
  unfolding fault_by
  by-bad there = refl

  by-twice : fault_by true true ≡ Some (twice (length before))
  unfolding fault_by
  by-twice = refl

  by-none : fault_by true false ≡ fault_behind (before ++ w ∷ []) ws
  unfolding fault_by
  by-none = refl

  pub fault-bad : is_name w ≡ false → Some (bad (length before)) ≡ fault_behind before (w ∷ ws)
  fault-bad e = sym (fault_behind-cons ∙ ap (λ b. fault_by b (is_some (place_of before w))) e
      ∙ by-bad (is_some (place_of before w)))

  pub fault-twice : is_name w ≡ true → is_some (place_of before w) ≡ true
      → Some (twice (length before)) ≡ fault_behind before (w ∷ ws)
  fault-twice e f = sym (fault_behind-cons ∙ ap (λ b. fault_by b (is_some (place_of before w))) e
      ∙ ap (fault_by true) f ∙ by-twice)

  pub fault-none : is_name w ≡ true → is_some (place_of before w) ≡ false
      → fault_behind before (w ∷ ws) ≡ fault_behind (before ++ w ∷ []) ws
  fault-none e f = fault_behind-cons ∙ ap (λ b. fault_by b (is_some (place_of before w))) e
      ∙ ap (fault_by true) f ∙ by-none

no-fault : (before : List (List ℕ)) → fault_behind before [] ≡ None
unfolding fault_behind
no-fault before = refl

-- where all are taken there is no fault
pub all-taken : (before : List (List ℕ)) (texts : List (String Global)) (n : ℕ) → length texts ≤ n
    → (whole : Option NameFault) → fault_behind before (map string_bytes (drop n texts)) ≡ whole
    → None ≡ whole
all-taken before texts n past whole same = sym (no-fault before)
    ∙ sym (ap (λ xs. fault_behind before (map string_bytes xs)) (drop_all n texts past)) ∙ same
