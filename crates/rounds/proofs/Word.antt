-- Words and their pieces.
--   after_word-append        a word behind a word
--   pieces-iterations             iterations of one letter are at most one piece more
--   arity-after_word         what is composed is a polynomial over the program's variables
--   ending_of_iterations, iterations_of_ending         at a level and then iterations: each number of iterations before is at the level
--   ending_fewer             where fewer letters and numbers of iterations are allowed
--   level_of_letters, letters_of_level       the next level: at a level and then iterations of some letter
use Rattle.std.proofs.Common.{◌≡◌, ℕ, zero, suc, ◌<◌, ◌≤◌, Bool, true, false, cond, eqb, List, [], ◌∷◌, ◌++◌, replicate, length, arith, refl, sym, ap, ap₂, subst, ◌∙◌, All}
use Rattle.std.proofs.lemmas.Bool.{eqb-true}
use Rattle.std.proofs.lemmas.List.Elements.{All-nil, All-cons, All-head, All-tail, All-append, All-replicate}
use Rattle.algebra.proofs.Basics.{eqb_same}
use Rattle.algebra.specs.Fraction.{Fraction, ℚ}
use Rattle.polynomials.specs.Terms.{Terms}
use Rattle.polynomials.specs.Polynomial.{Arity}
use Rattle.polynomials.proofs.Arity.{arity-compose}
use Rattle.loops.specs.Program.{Expr, Program}
use Rattle.loops.proofs.Maps.{arity-branch_map}
use Rattle.rounds.specs.Word.{pieces, pieces_after, AtMost, Ending, UpTo, IsLetter, after_word, Stays}

-- ---- the last constant piece of a word that isn't empty
record LastPiece (w : List ℕ) : Type 0 where
  before : List ℕ
  letter : ℕ
  count : ℕ
  is : before ++ replicate (suc count) letter ≡ w
  fewer : suc (pieces before) ≤ pieces w

cond_less : (o : Bool) (x y : ℕ) → suc x ≤ y → suc (cond o x (suc x)) ≤ cond o y (suc y)
cond_less true x y l = l
cond_less false x y l = omega arith

last_piece : (b : ℕ) (w : List ℕ) → LastPiece (b ∷ w)
unfolding pieces pieces_after
last_piece b [] = record { before = []; letter = b; count = 0; is = refl; fewer = omega arith }
last_piece b (c ∷ w) = go (last_piece c w)
  where
    go : LastPiece (c ∷ w) → LastPiece (b ∷ c ∷ w)
    go l = with_before l.before l.is l.fewer (eqb b c) refl
      where
        with_before : (u : List ℕ) → u ++ replicate (suc l.count) l.letter ≡ c ∷ w
            → suc (pieces u) ≤ suc (pieces_after c w) → (o : Bool) → eqb b c ≡ o
            → LastPiece (b ∷ c ∷ w)
        with_before [] is few true h =
            let same : b ≡ c = eqb-true b c h in
            let letter_is : l.letter ≡ c = cc in
            record {
              before = [];
              letter = l.letter;
              count = suc l.count;
              is = ap₂ ◌∷◌ (letter_is ∙ sym same) is;
              fewer = omega arith;
            }
        with_before [] is few false h = record {
          before = b ∷ [];
          letter = l.letter;
          count = l.count;
          is = ap (λ w. b ∷ w) is;
          fewer = subst (λ o. 2 ≤ suc (cond o (pieces_after c w) (suc (pieces_after c w)))) (sym h)
              (omega arith);
        }
        with_before (d ∷ u) is few o h =
            let same : d ≡ c = cc in
            record {
              before = b ∷ d ∷ u;
              letter = l.letter;
              count = l.count;
              is = ap (λ w. b ∷ w) is;
              fewer = subst (λ o. suc (suc (cond o (pieces_after d u) (suc (pieces_after d u))))
                  ≤ suc (cond (eqb b c) (pieces_after c w) (suc (pieces_after c w))))
                  (ap (eqb b) (sym same))
                  (let less = cond_less (eqb b c) (pieces_after d u) (pieces_after c w)
                  (omega arith) in omega arith);
            }

pieces_after-constant : (i n : ℕ) → pieces_after i (replicate n i) ≡ 0
unfolding pieces_after
pieces_after-constant i zero = refl
pieces_after-constant i (suc n) =
    ap (λ o. cond o (pieces_after i (replicate n i)) (suc (pieces_after i (replicate n i))))
    (eqb_same i) ∙ pieces_after-constant i n

pieces_after-iterations : (b : ℕ) (w : List ℕ) (i n : ℕ) → pieces_after b (w ++ replicate n i)
    ≤ suc (pieces_after b w)
unfolding pieces_after
pieces_after-iterations b [] i zero = omega arith
pieces_after-iterations b [] i (suc n) = go (eqb b i)
  where
    go : (o : Bool) → cond o (pieces_after i (replicate n i)) (suc (pieces_after i (replicate n i)))
        ≤ 1
    go true = let e = pieces_after-constant i n in omega arith
    go false = let e = pieces_after-constant i n in omega arith
pieces_after-iterations b (c ∷ w) i n = go (eqb b c) (pieces_after-iterations c w i n)
  where
    go : (o : Bool) → pieces_after c (w ++ replicate n i) ≤ suc (pieces_after c w)
        → cond o (pieces_after c (w ++ replicate n i)) (suc (pieces_after c (w ++ replicate n i)))
        ≤ suc (cond o (pieces_after c w) (suc (pieces_after c w)))
    go true ih = ih
    go false ih = omega arith

pub pieces-iterations : (w : List ℕ) (i n : ℕ) → pieces (w ++ replicate n i) ≤ suc (pieces w)
unfolding pieces
pieces-iterations [] i zero = omega arith
pieces-iterations [] i (suc n) = let e = pieces_after-constant i n in omega arith
pieces-iterations (b ∷ w) i n = let l = pieces_after-iterations b w i n in omega arith

pub no_pieces : (w : List ℕ) → pieces w ≤ 0 → w ≡ []
unfolding pieces
no_pieces [] l = refl
no_pieces (b ∷ w) l = absurd (omega arith)

all_before : {X : Type 0} (P : X → Type 0) (u v : List X) → All P (u ++ v) → All P u
all_before P [] v h = All-nil P
all_before P (x ∷ u) v h = All-cons P x u (All-head P x (u ++ v) h)
    (all_before P u v (All-tail P x (u ++ v) h))

all_after : {X : Type 0} (P : X → Type 0) (u v : List X) → All P (u ++ v) → All P v
all_after P [] v h = h
all_after P (x ∷ u) v h = all_after P u v (All-tail P x (u ++ v) h)

module _ {At : Type 0} (program : Program (Expr At)) where
  pub after_word-append : (u v : List ℕ) (p : Terms Fraction) → after_word program (u ++ v) p
      ≡ after_word program u (after_word program v p)
  unfolding after_word
  after_word-append [] v p = refl
  after_word-append (b ∷ u) v p = ap (λ q. after_word program (b ∷ []) q) (after_word-append u v p)

  pub arity-after_word : (w : List ℕ) (p : Terms Fraction) → Arity (length program.names) p
      → Arity (length program.names) (after_word program w p)
  unfolding after_word
  arity-after_word [] p a = a
  arity-after_word (b ∷ w) p a = arity-compose (length program.names) ℚ (after_word program w p) _
      (arity-branch_map program _)

  module _ (I : Terms Fraction → Type 0) where
    -- with each number of iterations that is allowed at a level
    pub ending_of_iterations : (k : ℕ) (R : ℕ → ℕ → Type 0) (p : Terms Fraction)
        → ((i t : ℕ) → R i t → Stays program I (AtMost k) (after_word program (replicate t i) p))
        → Stays program I (Ending k R) p
    ending_of_iterations k R p h = record {
      in_words = λ w all (e : Ending k R w).
          subst (λ x. I (after_word program x p)) (sym e.is)
          (subst I (sym (after_word-append e.before (replicate e.iterations e.letter) p))
          ((h e.letter e.iterations e.allowed).in_words e.before
          (all_before (IsLetter program) e.before (replicate e.iterations e.letter)
          (subst (All (IsLetter program)) e.is all)) e.few));
    }

    pub iterations_of_ending : (k : ℕ) (R : ℕ → ℕ → Type 0) (p : Terms Fraction) (i t : ℕ)
        → IsLetter program i → R i t → Stays program I (Ending k R) p
        → Stays program I (AtMost k) (after_word program (replicate t i) p)
    iterations_of_ending k R p i t letter r h = record {
      in_words = λ w all l.
          subst I (after_word-append w (replicate t i) p)
          (h.in_words (w ++ replicate t i) (All-append (IsLetter program) w (replicate t i) all
          (All-replicate (IsLetter program) t i letter)) (record {
            before = w;
            letter = i;
            iterations = t;
            few = l;
            allowed = r;
            is = refl;
          }));
    }

    pub ending_fewer : (k : ℕ) (R S : ℕ → ℕ → Type 0) (p : Terms Fraction)
        → ((i t : ℕ) → R i t → S i t) → Stays program I (Ending k S) p
        → Stays program I (Ending k R) p
    ending_fewer k R S p f h = record {
      in_words = λ w all (e : Ending k R w). h.in_words w all (record {
        before = e.before;
        letter = e.letter;
        iterations = e.iterations;
        few = e.few;
        allowed = f e.letter e.iterations e.allowed;
        is = e.is;
      });
    }

    -- the next level
    pub level_of_letters : (k : ℕ) (p : Terms Fraction) → 0 < length program.branches
        → Stays program I (UpTo k (length program.branches)) p → Stays program I (AtMost (suc k)) p
    unfolding pieces
    level_of_letters k p some h = record { in_words = go }
      where
        go : (w : List ℕ) → All (IsLetter program) w → pieces w ≤ suc k → I (after_word program w p)
        go [] all l = h.in_words [] all (record {
          before = [];
          letter = 1;
          iterations = 0;
          few = omega arith;
          allowed = (omega arith, omega arith);
          is = refl;
        })
        go (b ∷ w) all l =
            let s = last_piece b w in
            let few : suc (pieces s.before) ≤ pieces (b ∷ w) = s.fewer in
            let tail : All (IsLetter program) (replicate (suc s.count) s.letter) =
            all_after (IsLetter program) s.before _ (subst (All (IsLetter program)) (sym s.is)
            all) in
            let letter : IsLetter program s.letter = All-head (IsLetter program) s.letter
            (replicate s.count s.letter) tail in
            h.in_words (b ∷ w) all (record {
              before = s.before;
              letter = s.letter;
              iterations = suc s.count;
              few = omega arith;
              allowed = (letter.some, letter.within);
              is = sym s.is;
            })

    pub letters_of_level : (k : ℕ) (R : ℕ → ℕ → Type 0) (p : Terms Fraction)
        → Stays program I (AtMost (suc k)) p → Stays program I (Ending k R) p
    letters_of_level k R p h = record {
      in_words = λ w all (e : Ending k R w).
          h.in_words w all (subst (λ x. pieces x ≤ suc k) (sym e.is)
          (let few : pieces e.before ≤ k = e.few in
          omega (arith, few, pieces-iterations e.before e.letter e.iterations)));
    }
