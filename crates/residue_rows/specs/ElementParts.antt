-- An element that a column of echelon rows tells: its monomial, and a share of each standard monomial whose row has an entry there.
--   Share                    the column of a standard monomial, and what is to be its number modulo q
--   columns_in ss, numbers_in ss    these of each
--   share_sum ss row         the sum of the numbers times the row's entries in the columns
--   IsTermAt q es s t        the term of a share: its monomial, and a limited fraction that the number is a residue of
--   Falls ks                 each column is above all later ones
--   IsElementTo q es ls c i p     the terms of the rows that lead in the columns from i on to c
--   IsElementOf q es ls c g       an element of a column before c
--   LeadsElement q es ls c        the monomial of the column c leads an element: no row leads there, and no lead of an element of a column before divides it
--   HasNoFraction q x        the opposite of x has no limited fraction modulo q;  IsTold q x f: it has f, and is no multiple of q
--   IsUntold q ls c          an entry of the column c has none
--   IsFirstUntold q es ls c  so, and each column before c that leads an element has one
--   IsPushed q e x olds news     behind olds is the monomial e with the opposite of x, unless that is 0
--   has_divisor ls e         some of the monomials ls divides e
use Rattle.std.specs.Prelude.{◌≡◌, ◌≢◌, ◌<◌, ◌≤◌, ◌⊎◌, ◌++◌, ℕ, ℤ, pos, ◌+ℤ◌, neg_ℤ, Bool, false, ◌||◌, List, [], ◌∷◌, map, get_or}
use Rattle.std.specs.List.{AllZip}
use Rattle.algebra.specs.Each.{Each}
use Rattle.algebra.specs.In.{In}
use Rattle.algebra.specs.Fraction.{Fraction, ℚ}
use Rattle.polynomials.specs.Terms.{Terms}
use Rattle.machines.specs.Cut.{divides, lead_of}
use Rattle.closures.specs.Modulo.{IsMultiple, AreCongruent}
use Rattle.residue_rows.specs.Limited.{IsFractionOf}
use Rattle.residue_rows.specs.EchelonForm.{dot, entry, pick, Led, leads_in}

pub record Share : Type 0 where
  pub column : ℕ
  pub number : ℤ

abbrev pub columns_in : List Share → List ℕ
columns_in ss = map (λ s. s.column) ss

abbrev pub numbers_in : List Share → List ℤ
numbers_in ss = map (λ s. s.number) ss

abbrev pub share_sum : List Share → List ℤ → ℤ
share_sum ss row = dot (numbers_in ss) (pick (pos 0) (columns_in ss) row)

pub record IsTermAt (es : List (List ℕ)) (s : Share) (t : List ℕ × Fraction) : Type 0 where
  pub monomial : t.0 ≡ get_or es s.column []
  pub fraction : IsFractionOf t.1 s.number

unfoldable pub Falls : List ℕ → Type 0
Falls [] = Unit {0}
Falls (k ∷ ks) = Each (λ j. j < k) ks × Falls ks

pub record IsElementTo (q : ℤ) (es : List (List ℕ)) (ls : List Led) (c i : ℕ)
    (p : Terms Fraction) : Type 0 where
  pub shares : List Share
  pub rest : Terms Fraction
  pub is : p ≡ (get_or es c [], ℚ.one) ∷ rest
  pub terms : AllZip (IsTermAt es) shares rest
  pub below : Each (λ s. s.column < c) shares
  pub behind : Each (λ s. i ≤ s.column) shares
  pub falls : Falls (columns_in shares)
  pub standard : Each (λ s. In s.column (leads_in ls)) shares
  pub some : Each (λ s. ¬ (IsMultiple q s.number)) shares
  pub kills : Each (λ l. i ≤ l.lead
      → IsMultiple q (entry l.row c +ℤ share_sum shares l.row)) ls

pub record IsElementOf (q : ℤ) (es : List (List ℕ)) (ls : List Led) (c : ℕ) (g : Terms Fraction)
    : Type 0 where
  pub column : ℕ
  pub low : column < c
  pub is : IsElementTo q es ls column 0 g

pub record LeadsElement (q : ℤ) (es : List (List ℕ)) (ls : List Led) (c : ℕ) : Type 0 where
  pub free : Each (λ l. l.lead ≢ c) ls
  pub undivided : (g : Terms Fraction) → IsElementOf q es ls c g
      → divides (lead_of g) (get_or es c []) ≡ false

pub record HasNoFraction (q x : ℤ) : Type 0 where
  pub number : ℤ
  pub is : AreCongruent q number (neg_ℤ x)
  pub none : (f : Fraction) → ¬ (IsFractionOf f number)

pub record IsUntold (q : ℤ) (ls : List Led) (c : ℕ) : Type 0 where
  pub row : Led
  pub within : In row ls
  pub untold : HasNoFraction q (entry row.row c)

pub record IsFirstUntold (q : ℤ) (es : List (List ℕ)) (ls : List Led) (c : ℕ) : Type 0 where
  pub untold : IsUntold q ls c
  pub before : (j : ℕ) → j < c → LeadsElement q es ls j
      → (p : Terms Fraction) × IsElementTo q es ls j 0 p

pub record IsTold (q x : ℤ) (f : Fraction) : Type 0 where
  pub number : ℤ
  pub is : AreCongruent q number (neg_ℤ x)
  pub some : ¬ (IsMultiple q number)
  pub fraction : IsFractionOf f number

pub record IsShare (q : ℤ) (e : List ℕ) (x : ℤ) (olds news : Terms Fraction) : Type 0 where
  pub fraction : Fraction
  pub told : IsTold q x fraction
  pub pushed : news ≡ olds ++ (e, fraction) ∷ []

abbrev pub IsPushed : ℤ → List ℕ → ℤ → Terms Fraction → Terms Fraction → Type 0
IsPushed q e x olds news = ((x ≡ pos 0) × (news ≡ olds)) ⊎ IsShare q e x olds news

abbrev pub has_divisor : List (List ℕ) → List ℕ → Bool
has_divisor [] e = false
has_divisor (l ∷ ls) e = divides l e || has_divisor ls e
