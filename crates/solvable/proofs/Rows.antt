-- Tables by rows: what a place has, one row more, and what is outside.
use Rattle.std.proofs.Common.{◌≡◌, ◌⊎◌, inl, inr, ◌<◌, ◌≤◌, ℕ, zero, suc, ◌+◌, Bool, false, List, [], ◌∷◌, ◌++◌, length, get_or, All, T, ◌&&◌, Vec, Global, Result, Ok, Err, refl, sym, ap, subst, ◌∙◌, arith, IfOk, length-append}
use Rattle.std.proofs.lemmas.Bool.{cases_lt}
use Rattle.std.proofs.lemmas.List.Elements.{All-head, All-tail, All-append, All-cons, All-nil}
use Rattle.algebra.proofs.Basics.{both_out}
use Rattle.solvable.specs.Tables.{at, IsSquare, IsRow, IsTable}

abbrev pub Rows : Type 0
Rows = List (Vec Bool Global)

pub at_row : (t : Rows) (i j : ℕ) (row : Vec Bool Global) → i < length t → row ≡ get_or t i row
    → at t i j ≡ get_or row.items j false
at_row [] i j row h e = absurd (omega arith)
at_row (r ∷ t) zero j row h e = ap (λ (v : Vec Bool Global). get_or v.items j false) (sym e)
at_row (r ∷ t) (suc i) j row h e = at_row t i j row (omega arith) e

pub at-push_before : (t : Rows) (row : Vec Bool Global) (i j : ℕ) → i < length t
    → at (t ++ row ∷ []) i j ≡ at t i j
at-push_before [] row i j h = absurd (omega arith)
at-push_before (r ∷ t) row zero j h = refl
at-push_before (r ∷ t) row (suc i) j h = at-push_before t row i j (omega arith)

pub at-push_last : (t : Rows) (row : Vec Bool Global) (i j : ℕ) → i ≡ length t
    → at (t ++ row ∷ []) i j ≡ get_or row.items j false
at-push_last [] row zero j e = refl
at-push_last [] row (suc i) j e = absurd (omega arith)
at-push_last (r ∷ t) row zero j e = absurd (omega arith)
at-push_last (r ∷ t) row (suc i) j e = at-push_last t row i j (omega arith)

past_end : (row : List Bool) (j : ℕ) → length row ≤ j → get_or row j false ≡ false
past_end [] j h = refl
past_end (b ∷ row) zero h = absurd (omega arith)
past_end (b ∷ row) (suc j) h = past_end row j (omega arith)

-- a true value has a place inside
pub at_inside : (m : ℕ) (t : Rows) → IsSquare m t → (i j : ℕ) → T (at t i j) → (i < m) × (j < m)
at_inside m t s i j h = (
  subst (λ n. i < n) s.size (row_inside t i j h),
  column_inside t i j s.widths h,
)
  where
    row_inside : (t : Rows) (i j : ℕ) → T (at t i j) → i < length t
    row_inside [] i j h = absurd h
    row_inside (r ∷ t) zero j h = omega arith
    row_inside (r ∷ t) (suc i) j h = let l = row_inside t i j h in omega (arith, l)

    column_inside : (t : Rows) (i j : ℕ) → All (λ row. length row.items ≡ m) t → T (at t i j)
        → j < m
    column_inside [] i j a h = absurd h
    column_inside (r ∷ t) zero j a h =
        let w : length r.items ≡ m = All-head (λ (row : Vec Bool Global). length row.items ≡ m) r t
        a in
        elim (cases_lt j m) [
          | inl l ↦ l
          | inr g
              ↦ absurd (subst T (past_end r.items j (omega arith)) h)
        ]
    column_inside (r ∷ t) (suc i) j a h =
        column_inside t i j (All-tail (λ (row : Vec Bool Global). length row.items ≡ m) r t a) h

-- one row more
pub record Begun (m i : ℕ) (P : ℕ → ℕ → Bool → Type 0) (t : Rows) : Type 0 where
  pub size : length t ≡ i
  pub widths : All (λ row. length row.items ≡ m) t
  pub each : (k j : ℕ) → k < i → j < m → P k j (at t k j)

pub begun_more : (m i : ℕ) (P : ℕ → ℕ → Bool → Type 0) (t more : Rows) (row : Vec Bool Global)
    → more ≡ t ++ row ∷ [] → IsRow m (P i) row.items → Begun m i P t → Begun m (i + 1) P more
begun_more m i P t more row e r b =
    subst (Begun m (i + 1) P) (sym e)
    (record {
      size = length-append t (row ∷ []) ∙ ap (λ n. n + 1) b.size;
      widths = All-append (λ v. length v.items ≡ m) t (row ∷ []) b.widths
          (All-cons (λ v. length v.items ≡ m) row [] r.size (All-nil _));
      each = λ k j l h. place k j (cases_lt k i) l h;
    })
  where
    place : (k j : ℕ) → (k < i) ⊎ (i ≤ k) → k < i + 1 → j < m → P k j (at (t ++ row ∷ []) k j)
    place k j (inl l) h n =
        subst (P k j) (sym (at-push_before t row k j (subst (λ x. k < x) (sym b.size) l)))
        (b.each k j l n)
    place k j (inr g) h n =
        let same : k ≡ i = omega arith in
        subst (P k j) (sym (at-push_last t row k j (same ∙ sym b.size)))
        (subst (λ x. P x j (get_or row.items j false)) (sym same) (r.each j n))

-- a table of one fact is one of another
pub table_where : {E : Type 0} (r : Result (Vec (Vec Bool Global) Global) E) (m : ℕ) (P Q : ℕ → ℕ
    → Bool → Type 0)
    → ((i j : ℕ) (b : Bool) → i < m → j < m → P i j b → Q i j b) → IfOk r (λ t. IsTable m P t.items)
    → IfOk r (λ t. IsTable m Q t.items)
table_where (Ok v) m P Q f h = record {
  square = h.square;
  each = λ i j k l.
      f i j _ k l (h.each i j k l);
}
table_where (Err e) m P Q f h = h

-- ---- the values as they are read
pub entry_is : (t : Rows) (i j : ℕ) (row : Vec Bool Global) (b : Bool) → i < length t
    → row ≡ get_or t i row → j < length row.items → b ≡ get_or row.items j b → b ≡ at t i j
entry_is t i j row b h e k f = f ∙ default_free row.items j b k ∙ sym (at_row t i j row h e)
  where
    default_free : (xs : List Bool) (j : ℕ) (b : Bool) → j < length xs
        → get_or xs j b ≡ get_or xs j false
    default_free [] j b h = absurd (omega arith)
    default_free (x ∷ xs) zero b h = refl
    default_free (x ∷ xs) (suc j) b h = default_free xs j b (omega arith)

pub none_between : (m : ℕ) (first rest : Rows) (from to : ℕ) → IsSquare m rest
    → ((c : ℕ) → c < m → T (at first from c && at rest c to) → ⊥) → (c : ℕ)
    → T (at first from c && at rest c to) → ⊥
none_between m first rest from to s none c h =
    none c (at_inside m rest s c to (both_out (at first from c) (at rest c to) h).1).0 h
