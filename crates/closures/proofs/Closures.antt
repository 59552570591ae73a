-- The closure of a list: the least ideal that has it and that each branch leads into itself.
--   after_word_arity         what becomes of the list has the program's variables
--   closure_has, closure_ideal, closure_kept     it has the list, is an ideal, and is kept
--   closure_least            each such ideal has what is in it
--   closure_closed           so has the ideal of a closed list
--   closure_of_image         what becomes of the list in words is in it
--   kept_invariants, closure_invariants     invariants are kept: so the closure of invariants is of invariants
use Rattle.std.proofs.Common.{ℕ, List, [], ◌∷◌, ◌++◌, map, length, refl, sym, subst, arith, All, ap}
use Rattle.std.proofs.lemmas.List.Elements.{All-nil, All-cons, All-head, All-tail, All-append}
use Rattle.algebra.specs.Each.{Each}
use Rattle.algebra.specs.In.{In}
use Rattle.algebra.proofs.Each.{each-append, each-map, each_weaker}
use Rattle.algebra.proofs.In.{each_in, each_from}
use Rattle.algebra.specs.Fraction.{Fraction, ℚ}
use Rattle.algebra.proofs.Fractions.{ℚ_ring}
use Rattle.polynomials.specs.Terms.{Terms}
use Rattle.polynomials.specs.Polynomial.{Arity, AllArity}
use Rattle.polynomials.proofs.Arity.{arity-append, arity-times, arity-compose}
use Rattle.polynomials.proofs.Same.{Same-sym}
use Rattle.ideals.specs.Members.{IsMember}
use Rattle.ideals.proofs.Members.{member_compose}
use Rattle.ideals.proofs.FractionMembers.{member_at, member_same, member_nil, member_append, member_left, member_right}
use Rattle.loops.specs.Program.{Expr, Program}
use Rattle.loops.specs.Map.{branch_map}
use Rattle.loops.specs.Inv.{Inv}
use Rattle.loops.proofs.Maps.{arity-branch_map}
use Rattle.rounds.specs.Word.{IsLetter, IsZeroAtStarts, after_iteration, after_word, branch_of}
use Rattle.rounds.specs.Round.{IsClosed}
use Rattle.rounds.proofs.Word.{after_word-append, arity-after_word}
use Rattle.rounds.proofs.Run.{inv_of_stays, stays_of_inv}
use Rattle.rounds.proofs.Round.{closed_stays}
use Rattle.closures.specs.Closure.{IsAfterWord, InClosure, IsIdeal, IsClosedUnderBranches}
use Rattle.closures.proofs.Ideals.{members_in, member_times, IsMemberOver, member_ideal, invariants_ideal}

module _ {At : Type 0} (program : Program (Expr At)) where
  abbrev m : ℕ
  m = length program.names

  module _ (P : List (Terms Fraction)) (pa : AllArity (length program.names) P) where
    after_word_arity : (g : Terms Fraction) → IsAfterWord program P g → Arity m g
    after_word_arity g h =
        subst (Arity m) (sym h.is)
        (arity-after_word program h.word h.of (each_in (Arity m) P h.of pa h.given))

    all_arity : (gs : List (Terms Fraction)) → Each (IsAfterWord program P) gs → AllArity m gs
    all_arity gs h = each_weaker (IsAfterWord program P) (Arity m) after_word_arity gs h

    pub closure_of_image : (p : Terms Fraction) (w : List ℕ) → In p P → All (IsLetter program) w
        → InClosure program P (after_word program w p)
    unfolding Each
    closure_of_image p w i all =
        let image : IsAfterWord program P (after_word program w p) =
        record { of = p; word = w; given = i; letters = all; is = refl } in
        let a = after_word_arity (after_word program w p) image in
        record {
          arity = a;
          images = after_word program w p ∷ [];
          are = (image, tt);
          member = member_at m (after_word program w p ∷ []) (a, tt) 0 (omega arith);
        }

    pub closure_has : Each (InClosure program P) P
    unfolding after_word
    closure_has = each_from P (λ p i. closure_of_image p [] i (All-nil _))

    pub closure_ideal : IsIdeal m (InClosure program P)
    unfolding Each
    closure_ideal = record {
      arity = λ p h. h.arity;
      same = λ p q a s h. record {
        arity = a;
        images = h.images;
        are = h.are;
        member = member_same m h.images p q (Same-sym ℚ s) h.member;
      };
      zero = record { arity = tt; images = []; are = tt; member = member_nil m [] };
      sum = λ p q h k. record {
        arity = arity-append m p q h.arity k.arity;
        images = h.images ++ k.images;
        are = each-append (IsAfterWord program P) h.images k.images h.are k.are;
        member =
            let ha = all_arity h.images h.are in
            let ka = all_arity k.images k.are in
            member_append m (h.images ++ k.images)
            (each-append (Arity m) h.images k.images ha ka) p q h.arity k.arity
            (member_left m h.images k.images p ha ka h.arity h.member)
            (member_right m h.images k.images q ha ka k.arity k.member);
      };
      multiple = λ p q a h. record {
        arity = arity-times m ℚ p q a h.arity;
        images = h.images;
        are = h.are;
        member = member_times m h.images (all_arity h.images h.are) p q a h.arity h.member;
      };
    }

    pub closure_kept : IsClosedUnderBranches program (InClosure program P)
    unfolding after_word
    closure_kept = record {
      turned = λ b q letter h. record {
        arity = arity-compose m ℚ q _ (arity-branch_map program _);
        images = map (after_iteration program b) h.images;
        are = each-map (IsAfterWord program P) (after_iteration program b) h.images
            (each_weaker (IsAfterWord program P)
            (λ g. IsAfterWord program P (after_iteration program b g)) (λ g i. record {
              of = i.of;
              word = b ∷ i.word;
              given = i.given;
              letters = All-cons (IsLetter program) b i.word letter i.letters;
              is = ap (after_iteration program b) i.is;
            }) h.images h.are);
        member =
            member_compose ℚ_ring m m (branch_map program (branch_of program b))
            (arity-branch_map program _) h.images q (all_arity h.images h.are) h.arity h.member;
      };
    }

  -- ---- the least one
  module _ (I : Terms Fraction → Type 0) (ideal : IsIdeal (length program.names) I)
      (kept : IsClosedUnderBranches program I) where
    words_in : (w : List ℕ) (p : Terms Fraction) → All (IsLetter program) w → I p
        → I (after_word program w p)
    unfolding after_word
    words_in [] p all h = h
    words_in (b ∷ w) p all h =
        kept.turned b (after_word program w p) (All-head (IsLetter program) b w all)
        (words_in w p (All-tail (IsLetter program) b w all) h)

    pub closure_least : (P : List (Terms Fraction)) → Each I P → (q : Terms Fraction)
        → InClosure program P q → I q
    closure_least P h q c =
        members_in m I ideal c.images q
        (each_weaker (IsAfterWord program P) I (λ g i. subst I (sym i.is)
        (words_in i.word i.of i.letters (each_in I P i.of h i.given))) c.images c.are)
        c.arity c.member

  member_kept : (gs : List (Terms Fraction)) (ga : AllArity m gs) → IsClosed program gs
      → IsClosedUnderBranches program (IsMemberOver m gs ga)
  unfolding after_word
  member_kept gs ga c = record {
    turned = λ b p letter h. record {
      arity = arity-compose m ℚ p _ (arity-branch_map program _);
      member =
          closed_stays program gs ga c (b ∷ []) p
          (All-cons (IsLetter program) b [] letter (All-nil _)) h.arity h.member;
    };
  }

  pub closure_closed : (P gs : List (Terms Fraction)) → AllArity m P → AllArity m gs
      → IsClosed program gs → Each (IsMember ℚ m gs) P → (q : Terms Fraction)
      → InClosure program P q → IsMember ℚ m gs q
  closure_closed P gs pa ga c h q i =
      (closure_least (IsMemberOver m gs ga) (member_ideal m gs ga) (member_kept gs ga c) P
      (each_from P (λ p k. record {
        arity = each_in (Arity m) P p pa k;
        member = each_in (IsMember ℚ m gs) P p h k;
      })) q i).member

  -- ---- invariants
  pub kept_invariants : IsClosedUnderBranches program (Inv program)
  unfolding after_word
  kept_invariants = record {
    turned = λ b p letter h.
        inv_of_stays program (after_iteration program b p)
        (arity-compose m ℚ p _ (arity-branch_map program _)) (record {
          in_words = λ w all t.
              subst (IsZeroAtStarts program) (after_word-append program w (b ∷ []) p)
              ((stays_of_inv program p h).in_words (w ++ b ∷ []) (All-append (IsLetter program) w
              (b ∷ []) all (All-cons (IsLetter program) b [] letter (All-nil _))) tt);
        });
  }

  pub closure_invariants : (P : List (Terms Fraction)) → Each (Inv program) P
      → (q : Terms Fraction) → InClosure program P q → Inv program q
  closure_invariants P h q c =
      closure_least (Inv program) (invariants_ideal program) kept_invariants P h q c
