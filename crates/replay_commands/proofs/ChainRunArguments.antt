-- What the words of a run of a chain ask for.
--   counts                         a word has one letter more than commas, where it isn't empty
--   letters_more                   how many letters some words and one more have
--   words_few, words_many          the words in a text of few letters, and of more
--   words_more                     what some parts and one more are
--   with_words, no_words           by what was found of its words
use Rattle.std.proofs.Common.{◌≡◌, ◌∙◌, sym, ap, refl, subst, ℕ, ◌+◌, ◌-◌, ◌^◌, ◌≤◌, Bool, true, false, List, [], ◌∷◌, ◌++◌, length, map, Bor, min, arith, sum_by, nat_le, Result}
use Rattle.std.specs.Prelude.{Option, Some, None, if◌then◌else◌, Vec}
use Rattle.std.specs.declared.alloc.AllocError.{AllocError}
use Rattle.std.specs.declared.alloc.Global.{Global}
use Rattle.std.proofs.lemmas.Bool.Decides.{nat_tests}
use Rattle.std.proofs.lemmas.List.{map-append}
use Rattle.std.proofs.lemmas.List.Sums.{sum_by_push}
use Rattle.algebra.specs.Fraction.{Fraction}
use Rattle.command_parts.specs.Lookup.{IsFound, list_with}
use Rattle.command_parts.specs.Numerals.{most_letters, parts, each_of, letters_of}
use Rattle.command_parts.proofs.Growing.{each_more}
use Rattle.loop_runs.specs.ChainRunsSeen.{words_of}
use Rattle.replay_commands.specs.declared.chainrun_arguments.Request as made
use Rattle.replay_commands.specs.ChainrunViews.{view}
use Rattle.replay_commands.specs.ChainrunArguments.{word_parts, letter_count, words_in, request_of}

-- ---- letters
-- a word that isn't empty
pub counts : (w : List ℕ) → 1 ≤ length w → length (parts w) ≡ letter_count w
counts [] l = absurd (omega (arith, l))
counts (c ∷ cs) l = refl

saturated : (s k most : ℕ) → min (min s most + k) most ≡ min (s + k) most
saturated s k most = omega arith

pub letters_more : (letters more count most : ℕ) (yielded : List (Bor (List ℕ)))
    (part : Bor (List ℕ))
    → letters ≡ min (sum_by letter_count (map (λ q. q.now) yielded)) most
    → count ≡ letter_count part.now → more ≡ min (letters + count) most
    → more ≡ min (sum_by letter_count (map (λ q. q.now) (yielded ++ part ∷ []))) most
letters_more letters more count most yielded part so_far is added =
    added ∙ ap (λ n. min (n + count) most) so_far
    ∙ saturated (sum_by letter_count (map (λ q. q.now) yielded)) count most
    ∙ ap (λ n. min n most) (ap (λ n. sum_by letter_count (map (λ q. q.now) yielded) + n) is
    ∙ sym (ap (sum_by letter_count) (map-append (λ q. q.now) yielded (part ∷ []))
    ∙ sum_by_push letter_count (map (λ q. q.now) yielded) part.now))

-- few letters, where the count is one that a word of the machine holds
few_letters : (text : List ℕ) (n : ℕ)
    → n ≡ min (sum_by letter_count (word_parts text)) (2 ^ 64 - 1)
    → (b : Bool) → nat_le (sum_by letter_count (word_parts text)) most_letters ≡ b
    → (n ≤ most_letters → b ≡ true) × (¬ (n ≤ most_letters) → b ≡ false)
few_letters text n is true e = (λ h. refl, λ h. absurd (h (grind (arith, nat_tests, e, is))))
few_letters text n is false e = (λ h. absurd (grind (arith, nat_tests, e, is, h)), λ h. refl)

pub words_few : (text : List ℕ) (n : ℕ)
    → n ≡ min (sum_by letter_count (word_parts text)) (2 ^ 64 - 1) → n ≤ most_letters
    → words_in text ≡ each_of letters_of (word_parts text)
unfolding words_in
words_few text n is few =
    ap (λ b. if b then each_of letters_of (word_parts text) else None)
    ((few_letters text n is (nat_le (sum_by letter_count (word_parts text)) most_letters)
    refl).0 few)

pub words_many : (text : List ℕ) (n : ℕ)
    → n ≡ min (sum_by letter_count (word_parts text)) (2 ^ 64 - 1) → ¬ (n ≤ most_letters)
    → None ≡ words_in text
unfolding words_in
words_many text n is many =
    sym (ap (λ b. if b then each_of letters_of (word_parts text) else None)
    ((few_letters text n is (nat_le (sum_by letter_count (word_parts text)) most_letters)
    refl).1 many))

-- ---- words
pub words_more : (found : Result (Option (Vec (Vec ℕ Global) Global)) AllocError)
    (yielded : List (Bor (List ℕ))) (part : Bor (List ℕ))
    → IsFound (λ (v : Vec (Vec ℕ Global) Global). words_of v.items) found
    (list_with (each_of letters_of (map (λ q. q.now) yielded)) (letters_of part.now))
    → IsFound (λ (v : Vec (Vec ℕ Global) Global). words_of v.items) found
    (each_of letters_of (map (λ q. q.now) (yielded ++ part ∷ [])))
words_more found yielded part h =
    subst (IsFound (λ (v : Vec (Vec ℕ Global) Global). words_of v.items) found)
    (each_more letters_of (map (λ q. q.now) yielded) part.now
    ∙ ap (each_of letters_of) (sym (map-append (λ q. q.now) yielded (part ∷ [])))) h

pub with_words : (r : Result (Option made.Request) AllocError) (file : List ℕ)
    (found : List (List ℕ)) (words : Option (List (List ℕ))) (values : Option (List Fraction))
    → Some found ≡ words → IsFound view r (request_of file (Some found) values)
    → IsFound view r (request_of file words values)
with_words r file found words values e h =
    subst (λ x. IsFound view r (request_of file x values)) e h

pub no_words : (file : List ℕ) (words : Option (List (List ℕ))) (values : Option (List Fraction))
    → None ≡ words → None ≡ request_of file words values
no_words file words values e = subst (λ x. None ≡ request_of file x values) e refl
