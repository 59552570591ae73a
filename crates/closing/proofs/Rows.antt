-- Lists of rows, as the code makes them.
--   pushed_seen      a fact of each item's image, and of one more
--   none_seen        there is none in an empty list
--   next_test, done_tests      the tests of a branch, one after another
--   begun_branches, next_branch, done_branches     those of all branches
use Rattle.std.proofs.Common.{◌≡◌, ℕ, suc, ◌+◌, ◌-◌, ◌<◌, ◌≤◌, List, [], ◌∷◌, ◌++◌, map, drop, get_or, length, sym, ap, subst, ◌∙◌, add-one, arith}
use Rattle.std.proofs.lemmas.List.{length-append, length-map, map-append}
use Rattle.algebra.specs.Fraction.{Fraction}
use Rattle.polynomials.specs.Terms.{Terms}
use Rattle.machines.specs.Journal.{Entry}
use Rattle.loops.specs.Program.{Expr, Program}
use Rattle.closures.specs.Proving.{Test, tests_of, tests_from, AwaitsTests}
use Rattle.closures.proofs.Tests.{branch_tests, branches_done, test_next, tests_done, pushed_each}
use Rattle.poly.specs.Seen.{terms_in, terms_each}
use Rattle.loop_model.specs.FracPoly.{FracPoly}
use Rattle.closing.specs.Proving.{test_at}

module _ {X Y : Type 0} (f : X → Y) (R : ℕ → Y → Type 0) (d : Y) where
  pub none_seen : {xs : List X} → xs ≡ [] → (i : ℕ) → i < length (map f xs)
      → R i (get_or (map f xs) i d)
  none_seen {xs = xs} e i l =
      absurd (let a = length-map xs f in let b = ap length e in omega (arith, a, b, l))

  pub pushed_seen : (xs : List X) {next : List X} (x : X)
      → ((i : ℕ) → i < length (map f xs) → R i (get_or (map f xs) i d)) → R (length xs) (f x)
      → next ≡ xs ++ x ∷ [] → (i : ℕ) → i < length (map f next) → R i (get_or (map f next) i d)
  pushed_seen xs {next = next} x h r nx i l =
      let e : map f next ≡ map f xs ++ f x ∷ [] = ap (map f) nx ∙ map-append f xs (x ∷ []) in
      subst (λ ys. R i (get_or ys i d)) (sym e)
      (pushed_each R (map f xs) (f x) d h (subst (λ k. R k (f x)) (sym (length-map xs f)) r) i
      (let a = ap length e in
      let b = length-append (map f xs) (f x ∷ []) in
      omega (arith, a, b, l)))

module _ (program : Program (Expr ℕ)) (P gs : List (Terms Fraction)) (bs : List FracPoly)
    (es : List Entry) where
  abbrev Comes : List Test → Type 0
  Comes w = AwaitsTests program P gs (terms_each bs) es w

  pub next_test : (k i : ℕ) (w : List Test) → i < length bs
      → Comes (tests_of k (suc i) (drop i (terms_each bs)) ++ w)
      → Comes (test_at k i bs ∷ tests_of k (suc (i + 1)) (drop (i + 1) (terms_each bs)) ++ w)
  next_test k i w l a =
      subst (λ ts. Comes (ts ++ w))
      (test_next (terms_each bs) k i (let b = length-map bs terms_in in omega (arith, b, l))) a

  pub done_tests : (k i : ℕ) (w : List Test) → length bs ≤ i
      → Comes (tests_of k (suc i) (drop i (terms_each bs)) ++ w) → Comes w
  done_tests k i w l a =
      subst (λ ts. Comes (ts ++ w))
      (tests_done (terms_each bs) k i (let b = length-map bs terms_in in omega (arith, b, l))) a

  pub begun_branches : (n : ℕ) → Comes (tests_from 1 n (terms_each bs))
      → Comes (tests_from 1 (n - 0) (terms_each bs))
  begun_branches n a =
      subst (λ k. Comes (tests_from 1 k (terms_each bs)))
      (let e : n ≡ n - 0 = omega arith in e) a

  pub next_branch : (n b : ℕ) → b < n → Comes (tests_from (suc b) (n - b) (terms_each bs))
      → Comes (tests_of (b + 1) 1 (terms_each bs)
      ++ tests_from (suc (b + 1)) (n - (b + 1)) (terms_each bs))
  next_branch n b l a =
      subst (λ k. Comes (tests_of k 1 (terms_each bs)
      ++ tests_from (suc (b + 1)) (n - (b + 1)) (terms_each bs))) (sym (add-one b))
      (subst Comes (branch_tests (terms_each bs) n b l) a)

  pub done_branches : (n b : ℕ) → n ≤ b → Comes (tests_from (suc b) (n - b) (terms_each bs))
      → Comes []
  done_branches n b l a = subst Comes (branches_done (terms_each bs) n b l) a
