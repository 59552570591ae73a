-- The letters of a word as a text, one after another.
--   letter_pushed      the text of the first letters, with one more
--   word_pushed        that of all, with the line's end
use Rattle.std.proofs.Common.{◌≡◌, ℕ, ◌+◌, ◌<◌, ◌≤◌, List, [], ◌∷◌, ◌++◌, length, take, get_or, sym, ap, ◌∙◌, append_assoc, add-one}
use Rattle.std.proofs.Math.Seq.{take-suc}
use Rattle.std.specs.Prelude.{codes, decimal}
use Rattle.std.proofs.lemmas.Grind.{flat_map-append}
use Rattle.std.proofs.lemmas.List.{append-nil, take_all}
use Rattle.io_edge.specs.Texts.{line}
use Rattle.replay_commands.specs.CounterTexts.{letters_text}

abbrev pub letter_text : ℕ → List ℕ
letter_text b = codes " " ++ decimal b

letters_more : (word : List ℕ) (i d : ℕ) → i < length word
    → letters_text (take (i + 1) word)
    ≡ letters_text (take i word) ++ letter_text (get_or word i d)
letters_more word i d within =
    ap (λ n. letters_text (take n word)) (add-one i)
    ∙ ap letters_text (take-suc word i d within)
    ∙ flat_map-append letter_text (take i word) (get_or word i d ∷ [])
    ∙ ap (λ t. letters_text (take i word) ++ t) (append-nil (letter_text (get_or word i d)))

pub letter_pushed : (start text more word : List ℕ) (i d : ℕ) → i < length word
    → text ≡ start ++ letters_text (take i word)
    → more ≡ text ++ letter_text (get_or word i d)
    → more ≡ start ++ letters_text (take (i + 1) word)
letter_pushed start text more word i d within before pushed =
    pushed
    ∙ ap (λ t. t ++ letter_text (get_or word i d)) before
    ∙ append_assoc start (letters_text (take i word)) (letter_text (get_or word i d))
    ∙ ap (λ t. start ++ t) (sym (letters_more word i d within))

pub word_pushed : (old part text more word : List ℕ) (i : ℕ) → length word ≤ i
    → text ≡ (old ++ part) ++ letters_text (take i word) → more ≡ text ++ codes "\n"
    → more ≡ old ++ line (part ++ letters_text word)
word_pushed old part text more word i all before pushed =
    pushed
    ∙ ap (λ t. t ++ codes "\n")
    (before ∙ ap (λ w. (old ++ part) ++ letters_text w) (take_all i word all))
    ∙ simp append_assoc
