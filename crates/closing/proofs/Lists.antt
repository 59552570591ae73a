-- The list of a closing: how long it gets, and what it is divided by.
--   begun_units                  the units with the beginning of a task
--   divided_units, divided_few   a division has one unit more at least, so the list stays as short
--   extended_units, extended_few an extended list has at most one element more, and one for each unit
--   joined_alike, joined_arity, joined_nonzero     the list and one polynomial more, and its reduced basis
--   some_longer                  a list that isn't empty
--   fits_later, fits_next, fits_joined, nothing_fits, begun_fits     what is known of a closing's progress, later, behind a division, and behind a completion
use Rattle.std.proofs.Common.{◌≡◌, ◌≢◌, inl, inr, ℕ, ◌+◌, ◌<◌, ◌≤◌, List, [], ◌∷◌, ◌++◌, length, get_or, refl, sym, ap, subst, All, arith}
use Rattle.std.proofs.lemmas.List.{append-nil, length-map, length-append}
use Rattle.std.proofs.lemmas.List.Elements.{All-append, All-cons, All-head, All-nil, All-push}
use Rattle.std.specs.Global.{Vec}
use Rattle.algebra.specs.Fraction.{Fraction, rationals, fractions}
use Rattle.polynomials.specs.Order.{grevlex}
use Rattle.polynomials.specs.Terms.{Terms}
use Rattle.machines.specs.Division as division
use Rattle.machines.specs.Elimination as elimination
use Rattle.machines.specs.Elimination.{free_part}
use Rattle.machines.specs.Journal.{Begin, Image, Extend, Journal, units_of}
use Rattle.machines.specs.Machine.{done}
use Rattle.machines.specs.Machines as machines
use Rattle.machines.specs.Work.{Work}
use Rattle.machines.proofs.Lengths.{made, NothingKept, list_few, kept_made}
use Rattle.machines.proofs.Units.{units_added}
use Rattle.machines.proofs.Working.{units-push}
use Rattle.poly.specs.Seen.{arity_of, terms_in, terms_each}
use Rattle.rounds.proofs.Lawful.{kept-nothing}
use Rattle.loop_model.specs.FracPoly.{FracPoly}
use Rattle.algebra.proofs.In.{in_get, map-in}
use Rattle.ideal_ops.specs.Calls.{AreOver, HaveOneArity, IsSum}
use Rattle.journal.specs.View.{with_entry}
use Rattle.closing.specs.Progress.{AreIn, Fits}
use Rattle.closing.specs.Tasks.{RanTask, IsExtendedList}
use Rattle.closing.specs.declared.candidates.Candidate.{Candidate}
use Rattle.closing.specs.declared.joining.Progress.{Progress}

kept_short : (hs : List (Terms Fraction))
    → length (free_part 0 (made rationals 0 hs)) ≤ length hs
unfolding NothingKept
kept_short hs =
    subst (λ l. length (free_part 0 (made rationals 0 l)) ≤ length hs) (append-nil hs)
    (kept_made rationals 0 hs [] tt)

module _ (before after : Journal) (n : ℕ) where
  pub divided_units : (gs : List (Terms Fraction)) (p : Terms Fraction) {A : Type 0}
      (G : A → division.State Fraction → Type 0) (a : A)
      → RanTask (Image n) (machines.division fractions grevlex gs p) G before after (done a)
      → units_of before.entries < units_of after.entries
  divided_units gs p G a (inl r) = absurd r
  divided_units gs p G a (inr r) =
      let w = r.to.finished.work in
      let b = units-push before.entries (Begin (Image n)) in
      let c = units_added _ after.entries w.events w.entries in
      omega (arith, b, c)

  module _ (gs : List (Terms Fraction)) (r : Terms Fraction) (ls : Vec FracPoly)
      (ran : RanTask (Extend n)
      (machines.elimination fractions grevlex grevlex (λ hs. hs) (gs ++ r ∷ []))
      IsExtendedList before after (done ls)) where
    abbrev Bound : (List (Terms Fraction) → List (Terms Fraction)) → elimination.State Fraction
        → Type 0
    Bound part t =
        Work (elimination.next rationals grevlex grevlex part)
        (elimination.initial_state rationals grevlex (gs ++ r ∷ []))
        (with_entry before (Begin (Extend n))).entries after.entries t
        → length (elimination.list_of grevlex part t)
        + units_of (with_entry before (Begin (Extend n))).entries
        ≤ length (part (made rationals 0 (gs ++ r ∷ []))) + units_of after.entries

    bound : (t : elimination.State Fraction) → Bound (λ hs. hs) t
    bound t =
        subst (λ part. Bound part t) (λ i hs. kept-nothing hs i)
        (λ w. list_few rationals 0 grevlex grevlex (gs ++ r ∷ []) _ after.entries t w)

    made_short : length (made rationals 0 (gs ++ r ∷ [])) ≤ length gs + 1
    made_short =
        let k = ap length (kept-nothing (made rationals 0 (gs ++ r ∷ []))) in
        let a = kept_short (gs ++ r ∷ []) in
        let b = length-append gs (r ∷ []) in
        omega (arith, k, a, b)

    pub extended_units : units_of before.entries ≤ units_of after.entries
    extended_units = go ran
      where
        go : RanTask (Extend n)
            (machines.elimination fractions grevlex grevlex (λ hs. hs) (gs ++ r ∷ []))
            IsExtendedList before after (done ls)
            → units_of before.entries ≤ units_of after.entries
        go (inl x) = absurd x
        go (inr x) =
            let w = x.to.finished.work in
            let b = units-push before.entries (Begin (Extend n)) in
            let c = units_added _ after.entries w.events w.entries in
            omega (arith, b, c)

    pub extended_few : length ls.items + units_of before.entries
        ≤ length gs + 1 + units_of after.entries
    extended_few = go ran
      where
        go : RanTask (Extend n)
            (machines.elimination fractions grevlex grevlex (λ hs. hs) (gs ++ r ∷ []))
            IsExtendedList before after (done ls)
            → length ls.items + units_of before.entries
            ≤ length gs + 1 + units_of after.entries
        go (inl x) = absurd x
        go (inr x) =
            let a = bound x.to.last x.to.finished.work in
            let b = units-push before.entries (Begin (Extend n)) in
            let c = ap length x.to.gives in
            let d = length-map ls.items terms_in in
            let e = made_short in
            omega (arith, a, b, c, d, e)

pub fits_later : (m : ℕ) {j : ℕ} (k : ℕ) (p : Progress) → Fits m j p → j ≤ k → Fits m k p
fits_later m k p f l = record {
  arity = f.arity;
  nonzero = f.nonzero;
  few = (let a = f.few in omega (arith, a, l));
  number = (let a = f.number in omega (arith, a, l));
  kept = f.kept;
}

module _ (m : ℕ) {p : Progress} (q : Progress) (units more : ℕ) (f : Fits m units p) where
  pub fits_next : q.number ≡ p.number + 1 → q.list ≡ p.list → q.kept ≡ p.kept → units < more
      → Fits m more q
  fits_next number list kept l = record {
    arity = subst (λ (ps : Vec FracPoly). AreOver m ps.items) (sym list) f.arity;
    nonzero = subst (λ (ps : Vec FracPoly). All (λ g. terms_in g ≢ []) ps.items) (sym list)
        f.nonzero;
    few = (let a = f.few in
        let b = ap (λ (ps : Vec FracPoly). length ps.items) list in
        omega (arith, a, b, l));
    number = (let a = f.number in omega (arith, a, number, l));
    kept = subst (λ (xs : Vec Candidate). AreIn m xs.items) (sym kept) f.kept;
  }

  pub fits_joined : (ls : Vec FracPoly) (y : Candidate) → AreOver m ls.items
      → All (λ g. terms_in g ≢ []) ls.items → y.polynomial.arity ≡ m
      → length ls.items + units ≤ length (terms_each p.list.items) + 1 + more
      → length p.list.items < units → p.number < units → units ≤ more
      → q.number ≡ p.number + 1 → q.list ≡ ls → q.kept.items ≡ p.kept.items ++ y ∷ []
      → Fits m more q
  fits_joined ls y over nonzero arity bound short low later number list kept = record {
    arity = subst (λ (ps : Vec FracPoly). AreOver m ps.items) (sym list) over;
    nonzero = subst (λ (ps : Vec FracPoly). All (λ g. terms_in g ≢ []) ps.items) (sym list)
        nonzero;
    few = (let a = length-map p.list.items terms_in in
        let b = ap (λ (ps : Vec FracPoly). length ps.items) list in
        omega (arith, a, b, bound, short));
    number = omega (arith, number, low, later);
    kept = subst (AreIn m) (sym kept)
        (All-push (λ (x : Candidate). x.polynomial.arity ≡ m) p.kept.items y f.kept arity);
  }

-- ---- a list and one polynomial more
first_arity : (m : ℕ) (ps : List FracPoly) → 0 < length ps → AreOver m ps → arity_of ps ≡ m
first_arity m [] l a = absurd (omega (arith, l))
first_arity m (p ∷ ps) l a = All-head (λ (q : FracPoly). q.arity ≡ m) p ps a

module _ (m : ℕ) (list joined : List FracPoly) (r : FracPoly) (is : joined ≡ r ∷ [])
    (over : r.arity ≡ m) (all : AreOver m list) where
  both_over : AreOver m (list ++ joined)
  both_over =
      All-append (λ (q : FracPoly). q.arity ≡ m) list joined all
      (subst (AreOver m) (sym is)
      (All-cons (λ (q : FracPoly). q.arity ≡ m) r [] over (All-nil _)))

  both_arity : arity_of (list ++ joined) ≡ m
  both_arity =
      first_arity m (list ++ joined)
      (let a = length-append list joined in
      let b = ap length is in
      omega (arith, a, b)) both_over

  pub joined_alike : HaveOneArity (list ++ joined)
  joined_alike = subst (λ n. AreOver n (list ++ joined)) (sym both_arity) both_over

  pub joined_arity : (gs : List FracPoly) → IsSum list joined gs → AreOver m gs
  joined_arity gs h = subst (λ n. AreOver n gs) both_arity h.arity

  pub joined_nonzero : (gs : List FracPoly) → IsSum list joined gs
      → All (λ (g : FracPoly). terms_in g ≢ []) gs
  joined_nonzero gs h = λ i d l.
      let g = get_or gs i d in
      h.reduced.reduced.nonzero (terms_in g) (map-in terms_in gs g (in_get gs i d l))

pub nothing_fits : (m units : ℕ) (p : Progress) → p.number ≡ 0 → p.list.items ≡ []
    → p.kept.items ≡ [] → Fits m units p
nothing_fits m units p n l k = record {
  arity = subst (AreOver m) (sym l) (All-nil _);
  nonzero = subst (All (λ (g : FracPoly). terms_in g ≢ [])) (sym l) (All-nil _);
  few = (let a = ap length l in omega (arith, a));
  number = omega (arith, n);
  kept = subst (AreIn m) (sym k) (All-nil _);
}

-- where a level begins nothing of it is kept
pub begun_fits : (m units : ℕ) (p q : Progress) → Fits m units p → q.number ≡ p.number
    → q.list ≡ p.list → q.kept.items ≡ [] → Fits m units q
begun_fits m units p q f n l k = record {
  arity = subst (λ (ps : Vec FracPoly). AreOver m ps.items) (sym l) f.arity;
  nonzero = subst (λ (ps : Vec FracPoly). All (λ g. terms_in g ≢ []) ps.items) (sym l) f.nonzero;
  few = (let a = f.few in
      let b = ap (λ (ps : Vec FracPoly). length ps.items) l in
      omega (arith, a, b));
  number = (let a = f.number in omega (arith, a, n));
  kept = subst (AreIn m) (sym k) (All-nil _);
}

pub some_longer : {X : Type 0} (xs : List X) → xs ≢ [] → 1 ≤ length xs
some_longer [] n = absurd (n refl)
some_longer (x ∷ xs) n = omega arith
