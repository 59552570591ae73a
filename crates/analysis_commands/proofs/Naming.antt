-- The variables that a refusal names are the loop's.
--   cycle_below       each variable of a cycle uses one
--   class_below       those of a class
--   first_below       and its first
--   named             those of a refusal
use Rattle.std.proofs.Common.{◌≡◌, inl, inr, ℕ, zero, suc, ◌<◌, List, [], ◌∷◌, ◌++◌, length, replicate, Bool, T, refl, sym, subst, ◌∙◌, arith, Option, Some, None, IsSomeAnd}
use Rattle.std.proofs.lemmas.List.{length-map}
use Rattle.std.proofs.lemmas.List.Elements.{All-nil, All-cons}
use Rattle.algebra.specs.In.{In}
use Rattle.algebra.specs.Fraction.{Fraction}
use Rattle.polynomials.specs.Terms.{Terms}
use Rattle.loops.specs.Program.{Expr, Program}
use Rattle.loops.proofs.Maps.{length-branch_map}
use Rattle.machines.specs.Journal.{Journal}
use Rattle.solvable_maps.specs.Dependency.{Walks, IsNonlinearCycle, last_of}
use Rattle.solvable_maps.specs.Class.{IsClassOf, AreClasses}
use Rattle.solvable_maps.specs.Uses.{uses, strongly, any, poly_at}
use Rattle.solvable_maps.specs.Classes.{IsClass, first_of}
use Rattle.rounds.specs.BranchMap.{map_of}
use Rattle.rounds.specs.Word.{branch_of}
use Rattle.closed_forms.specs.Lengths.{with_class, IsLongAmong}
use Rattle.closed_forms.specs.Refusal.{IfFormRefused, refusal_in, IsWideForm, state_past, class_past, iteration_past}
use Rattle.closed_forms.specs.declared.errors.FormsError.{FormsError}
use Rattle.closed_forms.specs.declared.errors.FormsError.TheVariants as forms_error
use Rattle.invariant_fix.specs.Refusals.{IsRefusedBranch, IsRefused}
use Rattle.invariant_fix.specs.declared.errors.AnalyseError.{AnalyseError}
use Rattle.invariant_fix.specs.declared.errors.AnalyseError.TheVariants.{Map, Branch, Limit, Wide, Budget, Memory}
use Rattle.analysis_commands.specs.Naming.{AreBelow, AreNamedIn, AreNamed}

module _ (images : List (Terms Fraction)) where
  user_below : (ps : List (Terms Fraction)) (i : ℕ) (test : List ℕ → Bool)
      → T (any test (poly_at ps i)) → i < length ps
  user_below [] i test t = absurd t
  user_below (p ∷ ps) zero test t = omega arith
  user_below (p ∷ ps) (suc i) test t = let l = user_below ps i test t in omega (arith, l)

  abbrev IsBelow : ℕ → Type 0
  IsBelow j = j < length images

  walk_below : (i : ℕ) (vs : List ℕ) → Walks (uses images) i vs → last_of i vs < length images
      → AreBelow (length images) (i ∷ vs)
  walk_below i [] w l = All-cons IsBelow i [] l (All-nil IsBelow)
  walk_below i (j ∷ vs) w l = All-cons IsBelow i (j ∷ vs) (user_below images i _ w.0)
      (walk_below j vs w.1 l)

  pub cycle_below : (vs : List ℕ) → IsNonlinearCycle (uses images) (strongly images) vs
      → AreBelow (length images) vs
  cycle_below [] c = absurd c
  cycle_below (v ∷ []) c = absurd c
  cycle_below (v ∷ w ∷ vs) c =
      let l = user_below images v _ c.0 in
      All-cons IsBelow v (w ∷ vs) l (walk_below w vs c.1 (subst IsBelow (sym c.2) l))

  each_below : (g : List ℕ) → ((j : ℕ) → In j g → j < length images) → AreBelow (length images) g
  each_below [] h = All-nil IsBelow
  each_below (j ∷ g) h = All-cons IsBelow j g (h j (inl refl)) (each_below g (λ k i. h k (inr i)))

  pub class_below : (g : List ℕ) → IsClass images g → AreBelow (length images) g
  class_below g c = each_below g (λ j i. (c.is.inside j i).0)

  pub first_below : (i : ℕ) (g : List ℕ) → i < length images
      → IsClassOf (uses images) (length images) i g → first_of g < length images
  first_below i [] l c = absurd (c.whole i l (inl refl))
  first_below i (j ∷ g) l c = (c.inside j (inl refl)).0

  wide_below : (base : List ℕ) (z v : ℕ) → IsWideForm base images z v → IsBelow v
  wide_below base z v (state_past e p) = (let l = p.past.within in omega (arith, e, l))
  wide_below base z v (class_past w) =
      subst IsBelow w.first (first_below w.ready.first w.class w.ready.next.within w.ready.class)
  wide_below base z v (iteration_past w) =
      subst IsBelow w.first (first_below w.is.of w.class w.is.within w.is.is)

  long_below : (groups : List (List ℕ)) (earlier ns : List ℕ) (v : ℕ)
      → AreClasses (uses images) (length images) earlier groups → IsLongAmong images groups ns v
      → IsBelow v
  long_below [] earlier ns v are h = absurd h
  long_below (g ∷ groups) earlier ns v are (inl h) =
      subst IsBelow h.0 (first_below are.0 g are.1.within are.2)
  long_below (g ∷ groups) earlier ns v are (inr h) =
      long_below groups (earlier ++ g) (with_class images g ns) v are.3 h.1

  pub refusal_named : (e : FormsError) → IsSomeAnd (refusal_in e) (IfFormRefused images)
      → AreNamedIn (length images) e
  refusal_named (forms_error.NotSolvable cycle) r = cycle_below cycle.items r.cycle
  refusal_named (forms_error.Eigen class) r = class_below class.items r.0.is
  refusal_named (forms_error.Range class sum) r = class_below class.items r.0.is
  refusal_named (forms_error.WideSplit class candidate power row) r = class_below class.items r.0.is
  refusal_named (forms_error.LimitForm variable) r =
      long_below r.long.groups [] (replicate (length images) 1) variable r.long.are r.long.long
  refusal_named (forms_error.WideForm variable) r =
      wide_below r.later.base r.later.zeros variable r.later.wide
  refusal_named forms_error.Memory r = tt

and_weaker : {A : Type 0} (o : Option A) (P Q : A → Type 0) → ((x : A) → P x → Q x)
    → IsSomeAnd o P → IsSomeAnd o Q
and_weaker None P Q f h = h
and_weaker (Some x) P Q f h = f x h

map_length : (program : Program (Expr ℕ)) (b : ℕ) → length (map_of program b) ≡ length program.names
unfolding map_of
map_length program b = length-map _ _ ∙ length-branch_map program (branch_of program b)

pub named : (program : Program (Expr ℕ)) (before after : Journal) (e : AnalyseError)
    → IsRefused program before after e → AreNamed (length program.names) e
named program before after (Map e) r = tt
named program before after (Branch b e) r =
    subst (λ n. AreNamedIn n e) (map_length program (suc b))
    (refusal_named (map_of program (suc b)) e
    (and_weaker (refusal_in e) (IsRefusedBranch program b) (IfFormRefused (map_of program (suc b)))
    (λ x h. h.is) r.1.1))
named program before after (Limit task) r = tt
named program before after (Wide task) r = tt
named program before after Budget r = tt
named program before after Memory r = tt
