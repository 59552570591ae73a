-- What holds in a search, and where it has ended.
--   run_reached, offer_reached     a run reaches the states at its nodes
--   row_zero                  the rows of a node are 0 on what is known there
--   IsKept, IsDoneBy, Holds   the states of a node are reached, and its tests' bases have what is provable where they come from; what is done has rests that are 0, while nothing changes at its nodes
--   searched                  so it is in a search
--   finished_inductive, finished_reduced, finished_greatest     where it has ended, the lists are the greatest family
--   finished_complete         and one that rows of states tell is reduced for all invariants
use Rattle.std.proofs.Common.{◌≡◌, ◌≢◌, inl, inr, ℕ, zero, suc, ◌+◌, ◌<◌, ◌≤◌, ℤ, pos, Bool, true, false, cond, eqb, List, [], ◌∷◌, ◌++◌, map, sum, slice_get, Some, refl, sym, ap, subst, ◌∙◌, true≢false, arith}
use Rattle.std.proofs.lemmas.Bool.{eqb-true, ne_eqb}
use Rattle.algebra.specs.Each.{Each}
use Rattle.algebra.proofs.Basics.{or_false}
use Rattle.algebra.proofs.Each.{each_weaker, each-append}
use Rattle.algebra.proofs.In.{each_in, each_from, in_left, in_right}
use Rattle.algebra.specs.Fraction.{Fraction, ℚ}
use Rattle.polynomials.specs.Terms.{Terms}
use Rattle.polynomials.specs.Polynomial.{Arity, AllArity}
use Rattle.ideals.specs.Members.{IsMember}
use Rattle.machines.proofs.Places.{in_slice, slice_in}
use Rattle.closures.specs.Modulo.{AreResidues}
use Rattle.closures.specs.UpTo.{IsReducedUpTo}
use Rattle.closures.proofs.Monomials.{are_monomials_up_to}
use Rattle.flows.specs.Graph.{Transition, Graph, IsGraph, Reached, start, further, Inv}
use Rattle.flows.specs.Family.{Family, after, generators, IsInductive, HasDegree, IsProvable, IsGreatest}
use Rattle.flows.specs.Known.{Test, IsTest, IsKnown, HasProvable}
use Rattle.flows.specs.Kept.{Listing, unlisted, listed, untold, Node, IsRowOfRests, IsRowOf, IsExact}
use Rattle.flows.specs.Rows.{Row, on, state_row, IsSoundRow}
use Rattle.flows.specs.Runs.{Move, state_after, node_after, end_after, Offer, offered, IsRunFrom, IsOffer}
use Rattle.flows.specs.Searching.{State, first_state, Part, begins, offers, lists, keeps, rests, lacks, begins_again, adds, with_alone, monomials, AddsState, IsCompleteAt, with_node, with_done, joins, with_state, with_test, with_listing, elements, list_at, less_done, after_part, state_of, IsFinished, IsPart, IsSearch, OffersState, MakesListing, KeepsTarget, CountsRests, LacksRests}
use Rattle.flows.specs.Told.{IsZeroFor, HasResidues, IsTold, IsToldBy, IsStateRow}
use Rattle.flows.proofs.Greatest.{reduced_greatest}
use Rattle.flows.proofs.Known.{known_ideal, provable_known, known_states, known_rests, known_has, basis_has}
use Rattle.flows.proofs.Members.{member_in}
use Rattle.flows.proofs.Sound.{transition_is, sound}
use Rattle.flows.proofs.Told.{told_by, told_weaker, told_reduced, told_provable, told_invariants}

-- ---- runs
module _ (G : Graph) where
  pub run_reached : (v : ℕ) (s : List Fraction) (ms : List Move) → Reached G v s
      → IsRunFrom G v s ms → Reached G (node_after v ms) (end_after s ms)
  unfolding IsRunFrom node_after end_after
  run_reached v s [] r h = r
  run_reached v s (m ∷ ms) r h =
      let k = h.0 in
      let t = m.transition in
      run_reached t.to (state_after m s) ms
      (further t s (state_after m s) k.is (subst (λ w. Reached G w s) (sym k.from) r) (record {
        values = m.values;
        count = k.count;
        zeros = k.zeros;
        is = refl;
      })) h.1

  pub offer_reached : (v : ℕ) (o : Offer) → IsOffer G v o → Reached G v (offered o)
  offer_reached v o h =
      subst (λ w. Reached G w (offered o)) h.ends
      (run_reached 0 o.start o.moves (start o.start h.start) h.run)

-- ---- nodes
node_there : (P : ℕ → Node → Type 0) (v : ℕ) (x : Node) (nodes : ℕ → Node)
    → P v x → ((w : ℕ) → P w (nodes w)) → (w : ℕ) → P w (with_node v x nodes w)
node_there P v x nodes here all w = go (eqb w v) refl
  where
    go : (b : Bool) → eqb w v ≡ b → P w (cond b x (nodes w))
    go true e = subst (λ u. P u x) (sym (eqb-true w v e)) here
    go false e = all w

other_node : (v : ℕ) (x : Node) (nodes : ℕ → Node) (w : ℕ) → eqb w v ≡ false
    → nodes w ≡ with_node v x nodes w
other_node v x nodes w e = sym (ap (λ b. cond b x (nodes w)) e)

no_list : (gs : List (Terms Fraction)) → unlisted ≡ listed gs → ⊥
no_list gs e = let z : ⊥ = cc in z

no_fractions : (f : List ℕ) (gs : List (Terms Fraction)) → untold f ≡ listed gs → ⊥
no_fractions f gs e = let z : ⊥ = cc in z

no_untold : (f : List ℕ) → untold f ≡ unlisted → ⊥
no_untold f e = let z : ⊥ = cc in z

module _ (G : Graph) (is : IsGraph G) (d q : ℕ) (big : 2 ≤ q) where
  abbrev n : ℕ
  n = G.variables

  abbrev Knows : Node → Terms Fraction → Type 0
  Knows x p = IsKnown G x.states x.tests p

  abbrev es : List (List ℕ)
  es = monomials G d q

  abbrev RowOf : Node → Row → Type 0
  RowOf x r = IsRowOf G d x.states x.tests r

  abbrev IsListOf : Node → List (Terms Fraction) → Type 0
  IsListOf x gs = IsToldBy n d q es x.rows gs

  pub record IsKept (v : ℕ) (x : Node) : Type 0 where
    pub states : Each (Reached G v) x.states
    pub tests : Each (IsTest G v) x.tests
    pub have : Each (HasProvable G d) x.tests
    pub rows : Each (HasResidues (IsRowOf G d x.states x.tests) (pos q) es) x.rows
    pub alone : Each (HasResidues (IsStateRow G v) (pos q) es) x.alone

  pub row_zero : (v : ℕ) (x : Node) → IsKept v x → (r : Row) → RowOf x r
      → IsZeroFor d (Knows x) r
  row_zero v x k r (inl h) = record {
    zero = λ p low i. subst (λ r. on r p ≡ ℚ.zero) (sym h.is)
        (known_states G x.states x.tests h.state h.within p i);
  }
  row_zero v x k r (inr h) =
      let c = h.is in
      record {
        zero = λ p low i. subst (λ r. on r p ≡ ℚ.zero) (sym c.is)
            (known_rests G is v x.states x.tests k.tests d h.test h.within c.basis c.rest c.are
            c.monomial p low i);
      }

  pub row_sound : (v : ℕ) → v < G.nodes → (x : Node) → IsKept v x → (r : Row) → RowOf x r
      → IsSoundRow G d v r
  row_sound v l x k r h =
      let z = row_zero v x k r h in
      record {
        zero = λ p low i. z.zero p low
            (provable_known G is v x.states x.tests k.tests d l k.states k.have p i);
      }

  low_monomials : Each (λ e. sum e ≤ d) es
  low_monomials = let m = are_monomials_up_to n d in m.degrees

  list_told : (v : ℕ) (x : Node) → IsKept v x → (gs : List (Terms Fraction)) → IsListOf x gs
      → IsTold n d (IsRowOf G d x.states x.tests) q gs
  list_told v x k gs t =
      told_by n d q es low_monomials (IsRowOf G d x.states x.tests) x.rows k.rows gs t

  -- an exact list of a node has what is provable there
  pub exact_has : (v : ℕ) → v < G.nodes → (x : Node) → IsKept v x → (gs : List (Terms Fraction))
      → IsListOf x gs → IsExact G d x gs → (C : Family) → IsInductive G C
      → HasDegree G d C → Each (IsMember ℚ n gs) (C v)
  exact_has v l x k gs t e =
      known_has G is d v x.states x.tests k.tests l k.states k.have gs
      (told_reduced n d q gs (Knows x) (known_ideal G is v x.states x.tests k.tests) e big
      (told_weaker n d q gs (IsRowOf G d x.states x.tests) (IsZeroFor d (Knows x))
      (row_zero v x k) (list_told v x k gs t)))

  -- rows of more states and tests
  more_states : (ss : List (List Fraction)) (ts : List Test) (z : List Fraction)
      (rows : List (List ℤ)) → Each (HasResidues (IsRowOf G d ss ts) (pos q) es) rows
      → Each (HasResidues (IsRowOf G d (ss ++ z ∷ []) ts) (pos q) es) rows
  more_states ss ts z rows h =
      each_weaker (HasResidues (IsRowOf G d ss ts) (pos q) es)
      (HasResidues (IsRowOf G d (ss ++ z ∷ []) ts) (pos q) es)
      (λ row k. record { of = k.of; is = more k.of k.is; residues = k.residues }) rows h
    where
      more : (r : Row) → IsRowOf G d ss ts r → IsRowOf G d (ss ++ z ∷ []) ts r
      more r (inl h) = inl (record {
        state = h.state;
        within = in_left h.state ss (z ∷ []) h.within;
        is = h.is;
      })
      more r (inr h) = inr h

  more_tests : (ss : List (List Fraction)) (ts : List Test) (y : Test)
      (rows : List (List ℤ)) → Each (HasResidues (IsRowOf G d ss ts) (pos q) es) rows
      → Each (HasResidues (IsRowOf G d ss (ts ++ y ∷ [])) (pos q) es) rows
  more_tests ss ts y rows h =
      each_weaker (HasResidues (IsRowOf G d ss ts) (pos q) es)
      (HasResidues (IsRowOf G d ss (ts ++ y ∷ [])) (pos q) es)
      (λ row k. record { of = k.of; is = more k.of k.is; residues = k.residues }) rows h
    where
      more : (r : Row) → IsRowOf G d ss ts r → IsRowOf G d ss (ts ++ y ∷ []) r
      more r (inl h) = inl h
      more r (inr h) = inr (record {
        test = h.test;
        within = in_left h.test ts (y ∷ []) h.within;
        is = h.is;
      })

  state_residues : (ss : List (List Fraction)) (ts : List Test) (z : List Fraction)
      (row : List ℤ) → AreResidues (pos q) (map (state_row z) es) row
      → HasResidues (IsRowOf G d (ss ++ z ∷ []) ts) (pos q) es row
  state_residues ss ts z row h = record {
    of = state_row z;
    is = inl (record { state = z; within = in_right z ss (z ∷ []) (inl refl); is = refl });
    residues = h;
  }

  rests_residues : (ss : List (List Fraction)) (ts : List Test) (y : Test) (rows : List (List ℤ))
      → Each (HasResidues (IsRowOfRests G d y) (pos q) es) rows
      → Each (HasResidues (IsRowOf G d ss (ts ++ y ∷ [])) (pos q) es) rows
  rests_residues ss ts y rows h =
      each_weaker (HasResidues (IsRowOfRests G d y) (pos q) es)
      (HasResidues (IsRowOf G d ss (ts ++ y ∷ [])) (pos q) es)
      (λ row k. record {
        of = k.of;
        is = inr (record { test = y; within = in_right y ts (y ∷ []) (inl refl); is = k.is });
        residues = k.residues;
      }) rows h

  alone_residues : (v : ℕ) (z : List Fraction) → Reached G v z → (row : List ℤ)
      → AreResidues (pos q) (map (state_row z) es) row
      → HasResidues (IsStateRow G v) (pos q) es row
  alone_residues v z r row h = record {
    of = state_row z;
    is = record { state = z; reached = r; is = refl };
    residues = h;
  }

  -- ---- what holds in a search
  pub record IsDoneBy (t : Transition) (l m : Listing) : Type 0 where
    pub source : l ≡ listed (elements l)
    pub made : l ≢ unlisted
    pub there : m ≢ unlisted
    pub kept : (gs : List (Terms Fraction)) → m ≡ listed gs
        → Each (λ p. IsMember ℚ (t.unknowns + n) (generators t (λ v. elements l))
        (after n t p)) gs

  abbrev listing_at : (ℕ → Node) → ℕ → Listing
  listing_at nodes v = let x = nodes v in x.listing

  abbrev DoneAt : Transition → (ℕ → Node) → Type 0
  DoneAt t nodes = IsDoneBy t (listing_at nodes t.from) (listing_at nodes t.to)

  abbrev HasLists : ℕ → Node → Type 0
  HasLists v x = 0 < v → v < G.nodes → (gs : List (Terms Fraction)) → x.listing ≡ listed gs
      → IsListOf x gs

  pub record Holds (s : State) : Type 0 where
    pub kept : (v : ℕ) → IsKept v (s.nodes v)
    pub start : (let x = s.nodes 0 in x.listing) ≡ listed []
    pub lists : (v : ℕ) → HasLists v (s.nodes v)
    pub done : (i : ℕ) (t : Transition) → slice_get G.transitions i ≡ Some t → s.done i ≡ true
        → DoneAt t s.nodes

  first_holds : Holds first_state
  unfolding Each
  first_holds = record {
    kept = λ v. record { states = tt; tests = tt; have = tt; rows = tt; alone = tt };
    start = refl;
    lists = λ v some l gs e. absurd (none v some gs e);
    done = λ i t at e. absurd (true≢false (sym e));
  }
    where
      none : (v : ℕ) → 0 < v → (gs : List (Terms Fraction))
          → cond (eqb v 0) (listed []) unlisted ≡ listed gs → ⊥
      none zero some gs e = absurd (omega (arith, some))
      none (suc v) some gs e =
          no_list gs (sym (ap (λ b. cond b (listed []) unlisted)
          (ne_eqb (suc v) 0 (λ f. omega (arith, f)))) ∙ e)

  -- a node other than those of a transition changes
  module _ (s : State) (h : Holds s) (v : ℕ) (x : Node) where
    done_beside : (t : Transition) → eqb t.from v ≡ false → eqb t.to v ≡ false
        → DoneAt t s.nodes
        → DoneAt t (with_node v x s.nodes)
    done_beside t e f k =
        subst (λ (y : Node). IsDoneBy t (listing_at (with_node v x s.nodes) t.from) y.listing)
        (other_node v x s.nodes t.to f)
        (subst (λ (y : Node). IsDoneBy t y.listing (listing_at s.nodes t.to))
        (other_node v x s.nodes t.from e) k)

    -- of what is done, what isn't there
    done_less : (i : ℕ) (t : Transition) → slice_get G.transitions i ≡ Some t
        → less_done G v s.done i ≡ true
        → DoneAt t (with_node v x s.nodes)
    done_less i t at e = go (joins v (slice_get G.transitions i)) refl e
      where
        go : (b : Bool) → joins v (slice_get G.transitions i) ≡ b
            → cond b false (s.done i) ≡ true
            → DoneAt t (with_node v x s.nodes)
        go true j k = absurd (true≢false (sym k))
        go false j k =
            let apart = or_false (eqb t.from v) (eqb t.to v)
            (sym (ap (joins v) at) ∙ j) in
            done_beside t apart.0 apart.1 (h.done i t at k)

    start_beside : 0 < v → (let y = with_node v x s.nodes 0 in y.listing) ≡ listed []
    start_beside some =
        subst (λ (y : Node). y.listing ≡ listed [])
        (other_node v x s.nodes 0 (ne_eqb 0 v (λ e. omega (arith, some, e)))) h.start

  offers_hold : (s : State) → Holds s → (v : ℕ) (o : Offer) (row : List ℤ)
      → OffersState G d q s v o row → Holds (after_part G s (offers v o row))
  unfolding Each after_part
  offers_hold s h v o row k =
      let x = s.nodes v in
      let y = with_state (offered o) row x in
      let b = h.kept v in
      record {
        kept = node_there IsKept v y s.nodes (record {
          states = each-append (Reached G v) x.states (offered o ∷ []) b.states
              (offer_reached G v o k.offer, tt);
          tests = b.tests;
          have = b.have;
          rows =
              each-append (HasResidues (RowOf y) (pos q) es) x.rows (row ∷ [])
              (more_states x.states x.tests (offered o) x.rows b.rows)
              (state_residues x.states x.tests (offered o) row k.residues, tt);
          alone =
              each-append (HasResidues (IsStateRow G v) (pos q) es) x.alone (row ∷ []) b.alone
              (alone_residues v (offered o) (offer_reached G v o k.offer) row k.residues, tt);
        }) h.kept;
        start = start_beside s h v y k.some;
        lists = node_there HasLists v y s.nodes (λ some l gs e. absurd (no_list gs e)) h.lists;
        done = done_less s h v y;
      }

  lists_hold : (s : State) → Holds s → (v : ℕ) (l : Listing) → MakesListing G d q s v l
      → Holds (after_part G s (lists v l))
  unfolding Each after_part
  lists_hold s h v l k =
      let x = s.nodes v in
      let y = with_listing l x in
      let b = h.kept v in
      record {
        kept = node_there IsKept v y s.nodes (record {
          states = b.states;
          tests = b.tests;
          have = b.have;
          rows = b.rows;
          alone = b.alone;
        }) h.kept;
        start = start_beside s h v y k.some;
        lists = node_there HasLists v y s.nodes (λ some w gs e. k.told gs e)
            h.lists;
        done = λ i t at e.
            let w = h.done i t at e in
            done_beside s h v y t
            (ne_eqb t.from v (λ f. w.made (ap (λ u. let z = s.nodes u in z.listing) f ∙ k.before)))
            (ne_eqb t.to v (λ f. w.there (ap (λ u. let z = s.nodes u in z.listing) f ∙ k.before)))
            w;
      }

  one_more : (s : State) → Holds s → (i : ℕ) (t : Transition) → slice_get G.transitions i ≡ Some t
      → DoneAt t s.nodes → (j : ℕ) (u : Transition)
      → slice_get G.transitions j ≡ Some u → with_done i s.done j ≡ true
      → DoneAt u s.nodes
  one_more s h i t at k j u there e = go (eqb j i) refl e
    where
      go : (b : Bool) → eqb j i ≡ b → cond b true (s.done j) ≡ true
          → DoneAt u s.nodes
      go false f e = h.done j u there e
      go true f e =
          let same : Some t ≡ Some u =
          sym at ∙ ap (slice_get G.transitions) (sym (eqb-true j i f)) ∙ there in
          let is_one : t ≡ u = cc in
          subst (λ t. DoneAt t s.nodes) is_one k

  some_list : (l : Listing) (gs : List (Terms Fraction)) → l ≡ listed gs
      → (l ≡ listed (elements l)) × (l ≢ unlisted)
  some_list l gs e = (
    subst (λ (l : Listing). l ≡ listed (elements l)) (sym e) refl,
    λ f. no_list gs (sym f ∙ e),
  )

  keeps_hold : (s : State) → Holds s → (i : ℕ) (t : Transition) → KeepsTarget G d q s i t
      → Holds (after_part G s (keeps i t))
  unfolding after_part
  keeps_hold s h i t k =
      let next = k.next in
      let here = next.is in
      let x = s.nodes t.from in
      let y = s.nodes t.to in
      let a = some_list x.listing here.list here.source in
      let b = some_list y.listing (list_at s t.to) k.target in
      record {
        kept = h.kept;
        start = h.start;
        lists = h.lists;
        done = one_more s h i t here.at (record {
          source = a.0;
          made = a.1;
          there = b.1;
          kept = λ gs e. subst (λ gs. Each (λ p. IsMember ℚ (t.unknowns + n)
              (generators t (list_at s)) (after n t p)) gs) (ap elements e) k.kept;
        });
      }

  lacks_hold : (s : State) → Holds s → (i : ℕ) (y : Test) → LacksRests G d q s i y
      → Holds (after_part G s (lacks i y))
  unfolding after_part
  lacks_hold s h i y k =
      let takes = k.takes in
      let next = takes.next in
      let here = next.is in
      let t = y.transition in
      let x = s.nodes t.from in
      let a = some_list x.listing here.list here.source in
      record {
        kept = h.kept;
        start = h.start;
        lists = h.lists;
        done = one_more s h i t here.at (record {
          source = a.0;
          made = a.1;
          there = λ e. no_untold k.lead (sym k.target ∙ e);
          kept = λ gs e. absurd (no_fractions k.lead gs (sym k.target ∙ e));
        });
      }

  nothing_each : (P : Terms Fraction → Type 0) (gs : List (Terms Fraction)) → gs ≡ [] → Each P gs
  unfolding Each
  nothing_each P [] e = tt
  nothing_each P (g ∷ gs) e = absurd (let z : ⊥ = cc in z)

  told_arity : (rows : List (List ℤ)) (gs : List (Terms Fraction)) → IsToldBy n d q es rows gs
      → AllArity n gs
  told_arity rows gs t = let k = t.tidy in each_from gs (λ g i. let p = k.polynomials g i in
      p.arity)

  -- the list of a source
  source_arity : (s : State) → Holds s → (v : ℕ) → v < G.nodes
      → (let x = s.nodes v in x.listing) ≡ listed (list_at s v) → AllArity n (list_at s v)
  source_arity s h zero l e = nothing_each (Arity n) (list_at s 0) (ap elements h.start)
  source_arity s h (suc v) l e =
      told_arity (let x = s.nodes (suc v) in x.rows) (list_at s (suc v))
      (h.lists (suc v) (omega arith) l (list_at s (suc v)) e)

  source_has : (s : State) → Holds s → (v : ℕ) → v < G.nodes
      → (let x = s.nodes v in x.listing) ≡ listed (list_at s v)
      → IsExact G d (s.nodes v) (list_at s v) → (C : Family) → IsInductive G C
      → HasDegree G d C → Each (IsMember ℚ n (list_at s v)) (C v)
  source_has s h zero l e exact C c low = nothing_each (IsMember ℚ n (list_at s 0)) (C 0) c.start
  source_has s h (suc v) l e exact C c low =
      exact_has (suc v) l (s.nodes (suc v)) (h.kept (suc v)) (list_at s (suc v))
      (h.lists (suc v) (omega arith) l (list_at s (suc v)) e) exact C c low

  rests_hold : (s : State) → Holds s → (i : ℕ) (y : Test) (rows : List (List ℤ))
      → CountsRests G d q s i y rows → Holds (after_part G s (rests i y rows))
  unfolding Each after_part
  rests_hold s h i y rows k =
      let takes = k.takes in
      let next = takes.next in
      let here = next.is in
      let t = y.transition in
      let v = t.to in
      let x = s.nodes v in
      let z = with_test y rows x in
      let b = h.kept v in
      let source = s.nodes t.from in
      let l = (transition_is G is t (in_slice G.transitions i t here.at)).from_node in
      let a = some_list source.listing here.list here.source in
      let basis = takes.basis in
      let test : IsTest G v y = record {
        is = in_slice G.transitions i t here.at;
        to = refl;
        basis = basis.arity;
      } in
      record {
        kept = node_there IsKept v z s.nodes (record {
          states = b.states;
          tests = each-append (IsTest G v) x.tests (y ∷ []) b.tests (test, tt);
          have = each-append (HasProvable G d) x.tests (y ∷ []) b.have (
            basis_has G is d v y test (list_at s) (source_arity s h t.from l a.0)
                (source_has s h t.from l a.0 takes.exact) basis.has,
            tt,
          );
          rows =
              each-append (HasResidues (RowOf z) (pos q) es) x.rows rows
              (more_tests x.states x.tests y x.rows b.rows)
              (rests_residues x.states x.tests y rows k.are);
          alone = b.alone;
        }) h.kept;
        start = start_beside s h v z takes.some;
        lists = node_there HasLists v z s.nodes (λ some l gs e. absurd (no_list gs e)) h.lists;
        done = done_less s h v z;
      }

  adds_hold : (s : State) → Holds s → (v : ℕ) (o : Offer) (row : List ℤ)
      → AddsState G d q s v o row → Holds (after_part G s (adds v o row))
  unfolding Each after_part
  adds_hold s h v o row k =
      let x = s.nodes v in
      let y = with_alone row x in
      let b = h.kept v in
      record {
        kept = node_there IsKept v y s.nodes (record {
          states = b.states;
          tests = b.tests;
          have = b.have;
          rows = b.rows;
          alone =
              each-append (HasResidues (IsStateRow G v) (pos q) es) x.alone (row ∷ []) b.alone
              (alone_residues v (offered o) (offer_reached G v o k.offer) row k.residues, tt);
        }) h.kept;
        start = start_beside s h v y k.some;
        lists = node_there HasLists v y s.nodes (h.lists v) h.lists;
        done = λ i t at e.
            subst (λ (l : Listing). IsDoneBy t l (listing_at (with_node v y s.nodes) t.to))
            (sym (same v y s.nodes refl t.from))
            (subst (λ (l : Listing). IsDoneBy t (listing_at s.nodes t.from) l)
            (sym (same v y s.nodes refl t.to)) (h.done i t at e));
      }
    where
      same : (v : ℕ) (y : Node) (nodes : ℕ → Node) → y.listing ≡ listing_at nodes v → (w : ℕ)
          → listing_at (with_node v y nodes) w ≡ listing_at nodes w
      same v y nodes e w =
          node_there (λ w x. x.listing ≡ listing_at nodes w) v y nodes e (λ w. refl) w

  part_holds : (s : State) → Holds s → (part : Part) → IsPart G d q s part
      → Holds (after_part G s part)
  unfolding IsPart after_part
  part_holds s h begins k = record {
    kept = h.kept;
    start = h.start;
    lists = h.lists;
    done = h.done;
  }
  part_holds s h (offers v o row) k = offers_hold s h v o row k
  part_holds s h (lists v l) k = lists_hold s h v l k
  part_holds s h (keeps i t) k = keeps_hold s h i t k
  part_holds s h (rests i y rows) k = rests_hold s h i y rows k
  part_holds s h (lacks i y) k = lacks_hold s h i y k
  part_holds s h begins_again k = record {
    kept = h.kept;
    start = h.start;
    lists = h.lists;
    done = h.done;
  }
  part_holds s h (adds v o row) k = adds_hold s h v o row k

  pub searched : (parts : List Part) → IsSearch G d q parts → Holds (state_of G parts)
  unfolding IsSearch state_of
  searched [] h = first_holds
  searched (part ∷ parts) h = part_holds (state_of G parts) (searched parts h.0) part h.1

  -- ---- where it has ended
  module _ (s : State) (h : Holds s) (f : IsFinished G s) where
    list_of : (v : ℕ) → 0 < v → v < G.nodes → IsListOf (s.nodes v) (list_at s v)
    list_of v some l = h.lists v some l (list_at s v) (f.lists v l)

    pub finished_inductive : IsInductive G (list_at s)
    finished_inductive = record {
      arities = λ v l. source_arity s h v l (f.lists v l);
      start = ap elements h.start;
      kept = λ t i.
          let place = slice_in G.transitions t i in
          let k = h.done place.0 t place.1 (f.done place.0 t place.1) in
          k.kept (list_at s t.to) (f.lists t.to (transition_is G is t i).to_node);
    }

    pub finished_reduced : (v : ℕ) → v < G.nodes
        → IsReducedUpTo n d (list_at s v) (IsProvable G d v)
    finished_reduced =
        told_provable G d q big is (list_at s) finished_inductive (λ v some l.
        told_weaker n d q (list_at s v) (RowOf (s.nodes v)) (IsSoundRow G d v)
        (row_sound v l (s.nodes v) (h.kept v))
        (list_told v (s.nodes v) (h.kept v) (list_at s v) (list_of v some l)))

    pub finished_greatest : 0 < G.nodes → IsGreatest G d (list_at s)
    finished_greatest some = reduced_greatest G is d (list_at s) some finished_reduced

    pub finished_complete : (v : ℕ) → v < G.nodes → IsCompleteAt G d q s v
        → IsReducedUpTo n d (list_at s v) (Inv G v)
    finished_complete v l t =
        let k = h.kept v in
        told_invariants G d q big v (list_at s v)
        (each_from (list_at s v) (λ p i.
        let b = finished_inductive in
        sound G is (list_at s) b v l p (each_in (Arity n) (list_at s v) p (b.arities v l) i)
        (member_in n (list_at s v) p (b.arities v l) i)))
        (told_by n d q es low_monomials (IsStateRow G v) (let x = s.nodes v in x.alone) k.alone
        (list_at s v) t)
