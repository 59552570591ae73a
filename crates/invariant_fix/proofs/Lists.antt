-- The lists that tasks end with.
--   units_begun            the units with the beginning of a task
--   list_bound             a list that a work has ended with is no more than what is kept at its beginning, and the units;  units_follow: the units of before are among those after
--   reduced_list           a reduced basis of a set is one of its own ideal
--   none_of, empty_list    where the set has nothing but 0 there is no element; the empty list is reduced
--   start_known, orbit_known, meet_known      what is known of the lists
--   divisors_of            what division asks of them
--   reduced_at_own         as many variables as the first has
--   in_work_later          a branch in work at a later journal
--   known_more, iterations_few, turned_more     where there may be more elements; as many as iterations may give, and as one more may
use Rattle.std.proofs.Common.{◌≡◌, ◌⊎◌, inl, inr, ℕ, suc, ◌+◌, ◌*◌, ◌≤◌, cond, List, [], ◌∷◌, ◌++◌, length, get_or, refl, sym, ap, subst, ◌∙◌, arith}
use native.Mathlib.Nat as N
use Rattle.std.proofs.lemmas.List.Elements.{All-head, All-nil, All-append}
use Rattle.algebra.specs.Each.{Each}
use Rattle.algebra.proofs.In.{in_get, map-in}
use Rattle.algebra.specs.Fraction.{Fraction, ℚ, rationals, fractions}
use Rattle.algebra.proofs.Fractions.{ℚ_ring, ℚ_field}
use Rattle.polynomials.specs.Order.{grevlex}
use Rattle.polynomials.specs.Polynomial.{Falls, IsPolynomial}
use Rattle.polynomials.specs.Terms.{Terms, Same, combination}
use Rattle.polynomials.proofs.Canonical.{polynomial_unique}
use Rattle.polynomials.proofs.Orders.{grevlex_order}
use Rattle.polynomials.proofs.Same.{Same-trans, same_append}
use Rattle.ideals.specs.Members.{IsMember, IsSumOf}
use Rattle.machines.specs.Elimination.{free_part}
use Rattle.machines.specs.Journal as journal
use Rattle.machines.specs.Journal.{Begin, Journal, units_of}
use Rattle.machines.specs.Reduced.{Ascends, IsReducedFor, IsReducedBasis}
use Rattle.machines.proofs.Ends.{reduced_along}
use Rattle.machines.proofs.Working.{units-push}
use Rattle.machines.proofs.Units.{units_added}
use Rattle.monos.specs.declared.order.Grevlex.{Grevlex}
use Rattle.poly.specs.Seen.{arity_of, terms_in, terms_each}
use Rattle.divide.specs.Current.{AreDivisors}
use Rattle.journal.specs.View.{with_entry}
use Rattle.rounds.specs.Analysis.{Setting, Work, starting, order, block}
use Rattle.rounds.specs.Past.{task_of_work}
use Rattle.rounds.specs.Results.{IsReducedList}
use Rattle.ideal_ops.specs.Calls as ideal
use Rattle.ideal_ops.specs.Calls.{Way, elimination_of, IsListOf, AreOver, HaveOneArity, IsSum, IsIntersection}
use Rattle.machines.specs.Machine.{done, Ran}
use Rattle.invariant_fix.specs.Started.{with_past_start}
use Rattle.std.proofs.lemmas.List.{length-map}
use Rattle.std.specs.Global.{Vec}
use Rattle.loop_model.specs.FracPoly.{FracPoly}
use Rattle.invariant_fix.specs.InWork.{IsInWork}
use Rattle.invariant_fix.specs.Lists.{IsList}
use Rattle.invariant_fix.specs.Steps.{Follow}
use Rattle.invariant_fix.specs.declared.branch_in_work.BranchInWork.{BranchInWork}
use Rattle.machines.proofs.Lengths.{made, list_few}
use Rattle.invariant_fix.proofs.Tasks.{way_of, IsUnderWay}

-- ---- units
pub units_begun : (old mid : Journal) (t : journal.Task) → mid ≡ with_entry old (Begin t)
    → units_of mid.entries ≡ units_of old.entries + cond (journal.begins_unit t) 1 0
units_begun old mid t e = ap (λ (j : Journal). units_of j.entries) e
    ∙ units-push old.entries (Begin t)

-- ---- lengths
module _ {A : Setting} {w : Work} {W : Way fractions} {P : Type 0} {old mid new : Journal}
    (u : IsUnderWay A w W P old mid) (ls : Vec FracPoly)
    (r : Ran (with_past_start (elimination_of W) P) (IsListOf W) mid new (done ls)) where
  ended : Ran (with_past_start (elimination_of (way_of A w)) P) (IsListOf (way_of A w)) mid new
      (done ls)
  ended = subst (λ V. Ran (with_past_start (elimination_of V) P) (IsListOf V) mid new (done ls))
      u.way r

  pub list_bound : length ls.items + units_of mid.entries
      ≤ length (free_part (block A w) (made rationals (block A w) (starting A w)))
      + units_of new.entries
  list_bound =
      let e = ended.to in
      let a = list_few rationals (block A w) (order A w) grevlex (starting A w) mid.entries
      new.entries e.last e.finished.work in
      let b = ap length e.gives in
      let c = length-map ls.items terms_in in
      omega (arith, a, b, c)

  pub units_follow : Follow old new
  units_follow =
      let e = ended.to in
      let a = units_added mid.entries new.entries e.finished.work.events e.finished.work.entries in
      let b = units_begun old mid (task_of_work w) u.begun in
      omega (arith, a, b)

-- ---- reduced lists
pub reduced_list : {m : ℕ} {ts : List (Terms Fraction)} (I : Terms Fraction → Type 0)
    → IsReducedBasis rationals grevlex m ts I → IsReducedList m ts
reduced_list {m = m} {ts = ts} I b =
    reduced_along ℚ_field grevlex grevlex_order m ts I (IsMember ℚ m ts)
    (λ p h. ((b.generates p h).1, (b.generates p h).0)) b.reduced

none_polynomial : (m : ℕ) → IsPolynomial ℚ grevlex m []
unfolding Each Falls
none_polynomial m = record { nonzero = tt; arity = tt; falls = tt }

zero_is_none : (m : ℕ) (p : Terms Fraction) → IsPolynomial ℚ grevlex m p → Same ℚ p [] → p ≡ []
zero_is_none m p h s = polynomial_unique grevlex grevlex_order ℚ_ring m m p [] h (none_polynomial m)
    s

pub none_of : (m : ℕ) (ts : List (Terms Fraction)) (I : Terms Fraction → Type 0)
    → ((p : Terms Fraction) → I p → Same ℚ p []) → IsReducedFor rationals grevlex m ts I → ts ≡ []
none_of m [] I z b = refl
none_of m (t ∷ ts) I z b =
    absurd (b.nonzero t (inl refl) (zero_is_none m t (b.polynomials t (inl refl))
    (z t (b.members t (inl refl)))))

combination_none : (qs : List (Terms Fraction)) → combination ℚ qs [] ≡ []
unfolding combination
combination_none [] = refl
combination_none (q ∷ qs) = refl

member_none : (m : ℕ) (p : Terms Fraction) → IsMember ℚ m [] p → Same ℚ p []
member_none m p i = subst (Same ℚ p) (combination_none i.cofactors) i.is

pub empty_list : (m : ℕ) → IsReducedList m []
unfolding Ascends
empty_list m = record {
  members = λ g i. absurd i;
  polynomials = λ g i. absurd i;
  nonzero = λ g i. absurd i;
  monic = λ g i. absurd i;
  ascends = tt;
  led = λ t p h i. absurd (let z : (t ∷ p) ≡ [] =
      zero_is_none m (t ∷ p) h (member_none m (t ∷ p) i) in let n : ⊥ = cc in n);
  clean = λ g h i j n t k. absurd i;
}

none_here : (gs : List FracPoly) → terms_each gs ≡ [] → gs ≡ []
none_here [] e = refl
none_here (g ∷ gs) e = absurd (let z : ⊥ = cc in z)

nothing_known : (m most units : ℕ) (gs : List FracPoly) → gs ≡ [] → IsList m most units gs
nothing_known m most units gs e = subst (IsList m most units) (sym e)
    (record { arity = All-nil _; reduced = empty_list m; few = omega arith })

pub arity_there : (m : ℕ) (ps : List FracPoly) → AreOver m ps → (ps ≡ []) ⊎ (arity_of ps ≡ m)
arity_there m [] a = inl refl
arity_there m (p ∷ ps) a = inr (All-head (λ (q : FracPoly). q.arity ≡ m) p ps a)

pub one_arity : {m : ℕ} (ps : List FracPoly) → AreOver m ps → HaveOneArity ps
one_arity [] a = All-nil _
one_arity {m = m} (p ∷ ps) a = subst (λ n. AreOver n (p ∷ ps))
    (sym (All-head (λ (q : FracPoly). q.arity ≡ m) p ps a)) a

pub over_append : (m : ℕ) (ps qs : List FracPoly) → AreOver m ps → AreOver m qs
    → AreOver m (ps ++ qs)
over_append m ps qs a b = All-append (λ (q : FracPoly). q.arity ≡ m) ps qs a b

pub few_arity : (m : ℕ) (ps : List FracPoly) → AreOver m ps → m ≤ 12 → arity_of ps ≤ 4095
few_arity m ps a l = go (arity_there m ps a)
  where
    go : (ps ≡ []) ⊎ (arity_of ps ≡ m) → arity_of ps ≤ 4095
    go (inl e) = subst (λ (q : List FracPoly). arity_of q ≤ 4095) (sym e) (omega arith)
    go (inr e) = omega (arith, e, l)

pub reduced_at_own : {m : ℕ} (most units : ℕ) {gs : List FracPoly} → IsList m most units gs
    → IsReducedList (arity_of gs) (terms_each gs)
reduced_at_own {m = m} most units {gs = gs} k = go (arity_there m gs k.arity)
  where
    go : (gs ≡ []) ⊎ (arity_of gs ≡ m) → IsReducedList (arity_of gs) (terms_each gs)
    go (inl e) = subst (λ (l : List FracPoly). IsReducedList (arity_of l) (terms_each l)) (sym e)
        (empty_list 0)
    go (inr e) = subst (λ n. IsReducedList n (terms_each gs)) (sym e) k.reduced

-- ---- what is known of the lists of tasks
module _ (m : ℕ) (ps gs : List FracPoly) (over : AreOver m ps) where
  pub start_reduced : IsSum ps [] gs → (gs ≡ []) ⊎ (AreOver m gs × IsReducedList m (terms_each gs))
  start_reduced h = go ps over h
    where
      zero_sum : (n : ℕ) (p : Terms Fraction) → IsSumOf ℚ n [] [] p → Same ℚ p []
      zero_sum n p i = Same-trans ℚ i.is (same_append ℚ_ring (member_none n i.left i.in_left)
          (member_none n i.right i.in_right))

      go : (ps : List FracPoly) → AreOver m ps → IsSum ps [] gs → (gs ≡ [])
          ⊎ (AreOver m gs × IsReducedList m (terms_each gs))
      go [] o h =
          inl (none_here gs (none_of 0 (terms_each gs) (IsSumOf ℚ 0 [] []) (zero_sum 0)
          h.reduced.reduced))
      go (p ∷ ps) o h =
          let e = All-head (λ (q : FracPoly). q.arity ≡ m) p ps o in
          inr (
            subst (λ n. AreOver n gs) e h.arity,
            subst (λ n. IsReducedList n (terms_each gs)) e (reduced_list _ h.reduced),
          )

module _ (m : ℕ) (hs ks gs : List FracPoly) (over : AreOver m hs) (too : AreOver m ks) where
  pub meet_reduced : IsIntersection hs ks gs → (gs ≡ [])
      ⊎ (AreOver m gs × IsReducedList m (terms_each gs))
  meet_reduced h = go hs ks over too h
    where
      at : (n : ℕ) → n ≡ m → (I : Terms Fraction → Type 0) → ideal.IsReducedList n I gs
          → AreOver m gs × IsReducedList m (terms_each gs)
      at n e I h = (
        subst (λ k. AreOver k gs) e h.arity,
        subst (λ k. IsReducedList k (terms_each gs)) e (reduced_list I h.reduced),
      )

      go : (hs ks : List FracPoly) → AreOver m hs → AreOver m ks → IsIntersection hs ks gs
          → (gs ≡ []) ⊎ (AreOver m gs × IsReducedList m (terms_each gs))
      go [] [] o q h =
          inl (none_here gs (none_of 0 (terms_each gs) _ (λ p i. member_none 0 p i.0)
          h.reduced.reduced))
      go [] (k ∷ ks) o q h = inr (at k.arity (All-head (λ (q : FracPoly). q.arity ≡ m) k ks q) _ h)
      go (p ∷ hs) ks o q h = inr (at p.arity (All-head (λ (q : FracPoly). q.arity ≡ m) p hs o) _ h)

pub known : {m : ℕ} (most units : ℕ) {gs : List FracPoly}
    → (gs ≡ []) ⊎ (AreOver m gs × IsReducedList m (terms_each gs)) → length gs ≤ most + units
    → IsList m most units gs
known {m = m} most units {gs = gs} (inl e) l = nothing_known m most units gs e
known most units (inr h) l = record { arity = h.0; reduced = h.1; few = l }

pub known_later : {m : ℕ} (most : ℕ) {k : ℕ} (n : ℕ) {gs : List FracPoly} → IsList m most k gs
    → k ≤ n → IsList m most n gs
known_later most n h l =
    record { arity = h.arity; reduced = h.reduced; few = (let f = h.few in omega (arith, f, l)) }

pub in_work_later : {w : BranchInWork} {old new : Journal} → IsInWork w old → Follow old new
    → IsInWork w new
in_work_later {w} {old} {new} h l =
    record { fits = h.fits; place = h.place; basis = known_later _ _ h.basis l }

-- ---- in the words of division
pub divisors_of : (o : Grevlex) {m : ℕ} (most : ℕ) {units : ℕ} (gs : List FracPoly)
    → IsList m most units gs → AreDivisors o m gs
divisors_of o most gs k i d l =
    let g = get_or gs i d in (
      refl,
      k.arity i d l,
      k.reduced.nonzero (terms_in g) (map-in terms_in gs g (in_get gs i d l)),
    )

-- ---- lists of more iterations
pub known_more : (m most more k : ℕ) {gs : List FracPoly} → IsList m most k gs → most ≤ more
    → IsList m more k gs
known_more m most more k h l =
    record { arity = h.arity; reduced = h.reduced; few = (let f = h.few in omega (arith, f, l)) }

pub iterations_few : (a n : ℕ) → n ≤ 12 → a * n ≤ a * 12
iterations_few a n l = N.mul-le-mul_left a l

pub turned_more : (a n : ℕ) → a * n + a ≤ a * suc n
turned_more a n =
    let one : n + 1 ≡ suc n = omega arith in
    subst (λ m. a * n + a ≤ a * m) one
    (let e = N.mul-add a n 1 in let o = N.mul-one a in omega (arith, e, o))
