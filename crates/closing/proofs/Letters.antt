-- Letters of random words, and the maps that go with them.
--   word_more, are_letters     letters by numbers
--   index_within      the place of a letter's map
--   letter_goes       a letter more of a word
use Rattle.std.proofs.Common.{◌≡◌, ℕ, zero, suc, ◌+◌, ◌-◌, ◌<◌, ◌%◌, pred, pos, List, [], ◌∷◌, ◌++◌, map, take, get_or, length, refl, sym, ap, ap₂, subst, ◌∙◌, arith, All, Some}
use Rattle.std.proofs.lemmas.List.{take_more, map_push}
use Rattle.std.proofs.lemmas.List.Elements.{All-nil, All-cons}
use Rattle.std.proofs.lemmas.Nat.{mod_below}
use Rattle.std.proofs.lemmas.Option.{slice_get-get_or}
use Rattle.std.specs.List.{AllZip}
use Rattle.std.specs.Global.{Vec}
use Rattle.algebra.specs.Ring.{operations}
use Rattle.algebra.proofs.IntRing.{ℤ_ring}
use Rattle.polynomials.specs.Terms.{value_at}
use Rattle.loops.specs.Program.{Expr, Program}
use Rattle.loops.specs.Run.{branch_at}
use Rattle.rounds.specs.Word.{IsLetter, branch_of}
use Rattle.closures.specs.Modulo.{AreCongruent}
use Rattle.residue_rows.specs.Modulus.{modulus}
use Rattle.residue_rows.specs.Numbers.{numbers_of}
use Rattle.residue_rows.specs.declared.residue.Residue.{Residue}
use Rattle.closing.specs.Maps.{modular_terms_each, IsBranchModulo}
use Rattle.closing.specs.Samples.{IsSampleState, letters}
use Rattle.closing.specs.declared.modular_maps.ResiduePolynomial.{ResiduePolynomial}
use Rattle.closing.proofs.Ends.{sample_goes}

at_both : {X Y : Type 0} (R : X → Y → Type 0) (xs : List X) (ys : List Y) (i : ℕ) (d : X) (e : Y)
    → AllZip R xs ys → i < length xs → R (get_or xs i d) (get_or ys i e)
at_both R [] ys i d e a l = absurd (omega (arith, l))
at_both R (x ∷ xs) [] i d e a l = absurd a
at_both R (x ∷ xs) (y ∷ ys) zero d e a l = a.0
at_both R (x ∷ xs) (y ∷ ys) (suc i) d e a l = at_both R xs ys i d e a.1 (omega (arith, l))

pub length_both : {X Y : Type 0} (R : X → Y → Type 0) (xs : List X) (ys : List Y)
    → AllZip R xs ys → length xs ≡ length ys
length_both R [] [] a = refl
length_both R [] (y ∷ ys) a = absurd a
length_both R (x ∷ xs) [] a = absurd a
length_both R (x ∷ xs) (y ∷ ys) a = ap suc (length_both R xs ys a.1)

module _ (program : Program (Expr ℕ)) where
  letter_branch : (b : ℕ) → IsLetter program b → branch_at program b ≡ Some (branch_of program b)
  unfolding branch_at
  letter_branch zero l = absurd (omega (arith, l.some))
  letter_branch (suc b) l = slice_get-get_or program.branches b [] (omega (arith, l.within))

  letter_place : {b : ℕ} → IsLetter program b → b - 1 < length program.branches
  letter_place l = omega (arith, l.some, l.within)

  letter_map : (b : ℕ) (maps : List (Vec ResiduePolynomial)) (image : Vec ResiduePolynomial)
      → IsLetter program b → AllZip (IsBranchModulo program) program.branches maps
      → image ≡ get_or maps (b - 1) image → IsBranchModulo program (branch_of program b) image
  letter_map b maps image l a is =
      let place : b - 1 ≡ pred b = omega arith in
      subst (IsBranchModulo program (branch_of program b)) (sym is) (subst (λ k. IsBranchModulo
      program (get_or program.branches k []) (get_or maps (b - 1) image)) place
      (at_both (IsBranchModulo program) program.branches maps (b - 1) [] image a (letter_place l)))

  pub letter_goes : (ns word : List ℕ) (i : ℕ) (maps : List (Vec ResiduePolynomial))
      (image : Vec ResiduePolynomial) (polynomials : List ResiduePolynomial) (state : List Residue)
      {known : List Residue} (next : List Residue)
      → i < length word → All (IsLetter program) word
      → AllZip (IsBranchModulo program) program.branches maps
      → image ≡ get_or maps (get_or word i 0 - 1) image → polynomials ≡ image.items → known ≡ state
      → IsSampleState program (pos modulus) ns (take i word) (numbers_of state)
      → AllZip (AreCongruent (pos modulus)) (numbers_of next) (map (λ r. value_at
      (operations ℤ_ring) r (numbers_of known)) (modular_terms_each polynomials))
      → IsSampleState program (pos modulus) ns (take (i + 1) word) (numbers_of next)
  letter_goes ns word i maps image polynomials state next l by_letter branches at same
      known_is
      sample near =
      let b = get_or word i 0 in
      let letter : IsLetter program b = by_letter i 0 l in
      subst (λ w. IsSampleState program (pos modulus) ns w (numbers_of next))
      (sym (take_more word i 0 l))
      (sample_goes program (pos modulus) ns (take i word) b (branch_of program b) (numbers_of state)
      (numbers_of next) (modular_terms_each image.items) (letter_branch b letter) sample
      (letter_map b maps image letter branches at)
      (subst (λ rs. AllZip (AreCongruent (pos modulus)) (numbers_of next)
      (map (λ r. value_at (operations ℤ_ring) r (numbers_of state)) (modular_terms_each rs))) same
      (subst (λ xs. AllZip (AreCongruent (pos modulus)) (numbers_of next)
      (map (λ r. value_at (operations ℤ_ring) r (numbers_of xs))
      (modular_terms_each polynomials))) known_is near)))

  pub index_within : (word : List ℕ) (i : ℕ) (maps : List (Vec ResiduePolynomial))
      → i < length word → All (IsLetter program) word
      → AllZip (IsBranchModulo program) program.branches maps
      → get_or word i 0 - 1 < length maps
  index_within word i maps l by_letter branches =
      omega (
        arith,
        letter_place (by_letter i 0 l),
        length_both (IsBranchModulo program) program.branches maps branches,
      )

  -- letters by numbers, one after another
  pub word_more : (n m : ℕ) (ns word more : List ℕ) (i : ℕ) → m ≡ n → i < length ns
      → word ≡ letters n (take i ns) → more ≡ word ++ (get_or ns i 0 % m + 1) ∷ []
      → more ≡ letters n (take (i + 1) ns)
  word_more n m ns word more i same l before e =
      let one_more : get_or ns i 0 % n + 1 ≡ suc (get_or ns i 0 % n) = omega arith in
      e ∙ ap (λ k. word ++ (get_or ns i 0 % k + 1) ∷ []) same
      ∙ ap₂ (λ w c. w ++ c ∷ []) before one_more
      ∙ sym (map_push (λ y. suc (y % n)) (take i ns) (get_or ns i 0))
      ∙ ap (letters n) (sym (take_more ns i 0 l))

  pub are_letters : {n : ℕ} (ns : List ℕ) → n ≡ length program.branches → 0 < n
      → All (IsLetter program) (letters n ns)
  are_letters [] is some = All-nil (IsLetter program)
  are_letters {n = n} (x ∷ ns) is some =
      All-cons (IsLetter program) (suc (x % n)) (letters n ns)
      (record { some = omega arith; within = omega (arith, mod_below x n some) })
      (are_letters ns is some)
