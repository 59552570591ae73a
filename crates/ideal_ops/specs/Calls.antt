-- What the calls on ideals do, and what they give.
--   Way S              what is done: the gens are completed in an order, and a part of what that gives is tidied in graded reverse lexicographic order
--   sum_way ks bs, intersection_way ks bs, elimination_way k gs     that of a sum, of an intersection, and of an elimination of the first k variables
--   elimination_of w   the elimination that it is, as a machine;  IsListOf w gs s: the gs are its list in the state s
--   AreOver m ps       each of the ps has m variables;  HaveOneArity ps: as many as the first
--   first_block gs     how many variables stand in the first block of the first of the gs, and 0 of none
--   IsReducedList m I gs               the gs, of m variables, are the reduced basis of the polynomials in I
--   IsSum ks bs gs, IsIntersection ks bs gs     of the sums of a member of each ideal, and of what is in both
--   IsElimination k m hs gs            of what has none of the first k variables in the ideal of the hs, in the other m;  IsEliminationOf hs gs: where k is their first block
use Rattle.std.specs.Prelude.{◌≡◌, ◌+◌, ◌-◌, ℕ, List, [], ◌∷◌, ◌++◌, All}
use Rattle.std.specs.Global.{Vec}
use Rattle.std.specs.declared.cmp.PartialEq as PartialEq
use Rattle.algebra.specs.Scalars.{Scalars, field}
use Rattle.polynomials.specs.Order.{Rank, grevlex, blocks}
use Rattle.polynomials.specs.Terms.{Terms}
use Rattle.ideals.specs.Members.{IsMember, IsSumOf}
use Rattle.machines.specs.Elimination as elimination
use Rattle.machines.specs.Elimination.{free_part, in_front, blend}
use Rattle.machines.specs.Machine.{Machine}
use Rattle.machines.specs.Machines as machines
use Rattle.machines.specs.Reduced.{IsReducedBasis}
use Rattle.ring_laws.specs.declared.Ring as Ring
use Rattle.monos.specs.declared.order.Blocks.{Blocks}
use Rattle.monos.specs.declared.order.Order as Order
use Rattle.poly.specs.declared.Poly.{Poly}
use Rattle.poly.specs.Seen.{arity_of, terms_each}

pub record Way (S : Scalars) : Type 0 where
  pub order : Rank
  pub part : List (Terms S.Elem) → List (Terms S.Elem)
  pub gens : List (Terms S.Elem)

abbrev pub elimination_of : {S : Scalars} → Way S → Machine (elimination.State S.Elem)
elimination_of {S} w = machines.elimination S w.order grevlex w.part w.gens

module _ {K O : Type 0} {g : Ring.Ghosts K} {h : PartialEq.Ghosts K} {k : Order.Ghosts O}
    {l : PartialEq.Ghosts O} where
  abbrev pub IsListOf : Way g.scalars → Vec (Poly K O g h k l) → elimination.State g.scalars.Elem
      → Type 0
  IsListOf w gs s = terms_each gs.items ≡ elimination.list_of grevlex w.part s

  abbrev pub sum_way : List (Poly K O g h k l) → List (Poly K O g h k l) → Way g.scalars
  sum_way ks bs = record { order = grevlex; part = λ gs. gs; gens = terms_each ks ++ terms_each bs }

  abbrev pub intersection_way : List (Poly K O g h k l) → List (Poly K O g h k l) → Way g.scalars
  intersection_way ks bs = record {
    order = blocks 1 grevlex grevlex;
    part = free_part 1;
    gens = blend (field g.scalars) (blocks 1 grevlex grevlex) (terms_each ks) (terms_each bs);
  }

  abbrev pub elimination_way : ℕ → List (Poly K O g h k l) → Way g.scalars
  elimination_way n gs = record {
    order = blocks n grevlex grevlex;
    part = free_part n;
    gens = terms_each gs;
  }

  abbrev pub AreOver : ℕ → List (Poly K O g h k l) → Type 0
  AreOver m ps = All (λ p. p.arity ≡ m) ps

  abbrev pub HaveOneArity : List (Poly K O g h k l) → Type 0
  HaveOneArity ps = AreOver (arity_of ps) ps

  pub record IsReducedList (m : ℕ) (I : Terms g.scalars.Elem → Type 0)
      (gs : List (Poly K O g h k l)) : Type 0 where
    pub arity : AreOver m gs
    pub reduced : IsReducedBasis (field g.scalars) grevlex m (terms_each gs) I

  abbrev pub IsSum : (ks bs gs : List (Poly K O g h k l)) → Type 0
  IsSum ks bs gs =
      let m = arity_of (ks ++ bs) in
      IsReducedList m (IsSumOf g.scalars.arithmetic m (terms_each ks) (terms_each bs)) gs

  abbrev pub IsIntersection : (ks bs gs : List (Poly K O g h k l)) → Type 0
  IsIntersection ks bs gs =
      let m = arity_of (ks ++ bs) in
      IsReducedList m
      (λ y. IsMember g.scalars.arithmetic m (terms_each ks) y
      × IsMember g.scalars.arithmetic m (terms_each bs) y) gs

module _ {K O P : Type 0} {g : Ring.Ghosts K} {h : PartialEq.Ghosts K} {k : Order.Ghosts O}
    {l : PartialEq.Ghosts O} {k' : Order.Ghosts P} {l' : PartialEq.Ghosts P} where
  abbrev pub IsElimination : ℕ → ℕ → List (Poly K O g h k l) → List (Poly K P g h k' l') → Type 0
  IsElimination n m hs gs =
      IsReducedList m (λ y. IsMember g.scalars.arithmetic (n + m) (terms_each hs) (in_front n y)) gs

module _ {K : Type 0} {g : Ring.Ghosts K} {h : PartialEq.Ghosts K} {k : Order.Ghosts Blocks}
    {l : PartialEq.Ghosts Blocks} where
  abbrev pub first_block : List (Poly K Blocks g h k l) → ℕ
  first_block [] = 0
  first_block (p ∷ ps) = p.order.first

module _ {K P : Type 0} {g : Ring.Ghosts K} {h : PartialEq.Ghosts K} {k : Order.Ghosts Blocks}
    {l : PartialEq.Ghosts Blocks} {k' : Order.Ghosts P} {l' : PartialEq.Ghosts P} where
  abbrev pub IsEliminationOf : List (Poly K Blocks g h k l) → List (Poly K P g h k' l') → Type 0
  IsEliminationOf hs gs = IsElimination (first_block hs) (arity_of hs - first_block hs) hs gs
