-- Loops of one variable whose branches do nothing: what a basis and an answer need.
--   one_loop, two_loop      with one branch, of which x_.. speak; and with two, of which two_..
--   x_free, x_narrow        no operation of their maps passes a limit or is past
--   x_split                 each branch is solvable, and its classes pass
--   x_branches              no branch is refused
--   x_form, x_forms, two_forms      the closed form of a branch that does nothing, and the forms of the branches
--   x_finished, two_finished      the finished journals
--   zero_asked, some_asked  the answered journals of the first: where 0 is asked for, nothing is
--                           left; where a polynomial with a term is, it is left
use Rattle.std.proofs.Common.{◌≡◌, ℕ, zero, suc, ◌<◌, List, [], ◌∷◌, ◌++◌, length, get_or, refl, sym, ap, subst, ◌∙◌, arith, All}
use Rattle.algebra.specs.Each.{Each}
use Rattle.algebra.specs.Gcd.{gcd}
use Rattle.algebra.specs.Ratio.{is_lowest}
use Rattle.algebra.specs.Fraction.{Fraction, fraction}
use Rattle.polynomials.specs.Exponent.{unit_exponents}
use Rattle.polynomials.specs.Order.{compare, grevlex}
use Rattle.polynomials.specs.Terms.{Terms, constant, variables}
use Rattle.machines.specs.Collect.{collect, insert, place}
use Rattle.machines.specs.Division as division
use Rattle.machines.specs.Journal.{Begin, Did, Start, Member}
use Rattle.machines.specs.Event.{Zero}
use Rattle.loops.specs.Effect.{after_branch}
use Rattle.loops.specs.Map.{branch_map}
use Rattle.loops.specs.Program.{Expr, Program}
use Rattle.solvable_maps.specs.Classes.{IsFormBase}
use Rattle.rounds.specs.BranchMap.{map_of}
use Rattle.rounds.specs.Form.{Form, IsClosedForm}
use Rattle.rounds.specs.Journal.{AreForms, IsFinished, IsAnswered}
use Rattle.loop_model.specs.Operations.{IsWide, PassesLimit}
use Rattle.loop_model.specs.Maps.{maps_operations, AreFree, statements_operations}
use Rattle.loop_model.specs.Operations.{operations_all}
use Rattle.solvable.specs.Refusal.{IsSolvable}
use Rattle.closed_forms.specs.Lengths.{IsShort}
use Rattle.closed_forms.specs.Refusal.{AllPass, Refusal, IfFormRefused}
use Rattle.analysis_commands.proofs.IdentityMap.{still, still_solvable, still_passes, still_short, turned, turned_normal, still_base_is, same_iterations, still_unrefused}
use Rattle.analysis_commands.proofs.IdleRuns.{x_loop, x_run, x_ends, asked_run, zero_run, nothing_left, zero_answered, some_answered}

abbrev pub one_loop : Program (Expr ℕ)
one_loop = x_loop ([] ∷ [])

abbrev pub two_loop : Program (Expr ℕ)
two_loop = x_loop ([] ∷ [] ∷ [])

-- ---- maps
none_of : {A : Type 0} (xs before behind : List A) (x : A) → xs ≡ [] → xs ≡ before ++ x ∷ behind → ⊥
none_of xs [] behind x e h = (let z = ap length (sym e ∙ h) in omega (arith, z))
none_of xs (y ∷ before) behind x e h = (let z = ap length (sym e ∙ h) in omega (arith, z))

no_operations : maps_operations one_loop ≡ []
unfolding operations_all statements_operations
no_operations = refl

no_operations_two : maps_operations two_loop ≡ []
unfolding operations_all statements_operations
no_operations_two = refl

pub x_free : AreFree one_loop
x_free = subst (All (λ o. ¬ (PassesLimit 1 o))) (sym no_operations)
    (λ i d l. absurd (omega (arith, l)))

pub two_free : AreFree two_loop
two_free = subst (All (λ o. ¬ (PassesLimit 1 o))) (sym no_operations_two)
    (λ i d l. absurd (omega (arith, l)))

pub x_narrow : (at : ℕ) → IsWide 1 (maps_operations one_loop) at → ⊥
x_narrow at w = none_of
    (maps_operations one_loop) w.before w.behind w.operation no_operations w.order

pub two_narrow : (at : ℕ) → IsWide 1 (maps_operations two_loop) at → ⊥
two_narrow at w = none_of
    (maps_operations two_loop) w.before w.behind w.operation no_operations_two w.order

-- ---- branches
map_one : map_of one_loop 1 ≡ still
unfolding map_of branch_map after_branch variables unit_exponents constant collect insert place
    compare grevlex fraction is_lowest gcd
map_one = refl

map_two : (b : ℕ) → b < 2 → map_of two_loop (suc b) ≡ still
unfolding map_of branch_map after_branch variables unit_exponents constant collect insert place
    compare grevlex fraction is_lowest gcd
map_two zero l = refl
map_two (suc zero) l = refl
map_two (suc (suc b)) l = absurd (omega (arith, l))

pub x_split : (b : ℕ) → b < 1
    → IsSolvable (map_of one_loop (suc b)) × AllPass (map_of one_loop (suc b))
    × IsShort (map_of one_loop (suc b))
x_split zero l = subst (λ ms. IsSolvable ms × AllPass ms × IsShort ms) (sym map_one)
    (still_solvable, still_passes, still_short)
x_split (suc b) l = absurd (omega (arith, l))

pub two_split : (b : ℕ) → b < 2
    → IsSolvable (map_of two_loop (suc b)) × AllPass (map_of two_loop (suc b))
    × IsShort (map_of two_loop (suc b))
two_split b l =
    subst (λ ms. IsSolvable ms × AllPass ms × IsShort ms) (sym (map_two b l))
    (still_solvable, still_passes, still_short)

pub x_branches : (b : ℕ) (r : Refusal) → b < 1 → IfFormRefused (map_of one_loop (suc b)) r → ⊥
x_branches zero r l h = still_unrefused r (subst (λ ms. IfFormRefused ms r) map_one h)
x_branches (suc b) r l h = absurd (omega (arith, l))

pub two_branches : (b : ℕ) (r : Refusal) → b < 2 → IfFormRefused (map_of two_loop (suc b)) r → ⊥
two_branches b r l h = still_unrefused r (subst (λ ms. IfFormRefused ms r) (map_two b l) h)

-- ---- closed forms
abbrev pub x_form : Form
x_form = record { base = []; polys = turned ∷ []; since = 0 }

x_is_form : IsClosedForm one_loop 1 x_form
unfolding Each branch_map after_branch variables unit_exponents
x_is_form = record {
  base = subst (λ ms. IsFormBase ms []) (sym map_one) still_base_is;
  polynomials = (turned_normal.polynomial, tt);
  normal = (turned_normal.normal, tt);
  form = record { arity = ((refl, tt), tt); values = λ n s l e. same_iterations n s l };
  least = λ d c. omega arith;
}

two_is_form : (b : ℕ) → b < 2 → IsClosedForm two_loop (suc b) x_form
unfolding Each branch_map after_branch variables unit_exponents
two_is_form zero l = record {
  base = subst (λ ms. IsFormBase ms []) (sym (map_two zero l)) still_base_is;
  polynomials = (turned_normal.polynomial, tt);
  normal = (turned_normal.normal, tt);
  form = record { arity = ((refl, tt), tt); values = λ n s l e. same_iterations n s l };
  least = λ d c. omega arith;
}
two_is_form (suc zero) l = record {
  base = subst (λ ms. IsFormBase ms []) (sym (map_two (suc zero) l)) still_base_is;
  polynomials = (turned_normal.polynomial, tt);
  normal = (turned_normal.normal, tt);
  form = record { arity = ((refl, tt), tt); values = λ n s l e. same_iterations n s l };
  least = λ d c. omega arith;
}
two_is_form (suc (suc b)) l = absurd (omega (arith, l))

pub x_forms : AreForms one_loop (x_form ∷ [])
x_forms = record { count = refl; each = λ b d l. go b d l }
  where
    go : (b : ℕ) (d : Form) → b < 1 → IsClosedForm one_loop (suc b) (get_or (x_form ∷ []) b d)
    go zero d l = x_is_form
    go (suc b) d l = absurd (omega (arith, l))

pub two_forms : AreForms two_loop (x_form ∷ x_form ∷ [])
two_forms = record { count = refl; each = λ b d l. go b d l }
  where
    go : (b : ℕ) (d : Form) → b < 2
        → IsClosedForm two_loop (suc b) (get_or (x_form ∷ x_form ∷ []) b d)
    go zero d l = two_is_form zero l
    go (suc zero) d l = two_is_form (suc zero) l
    go (suc (suc b)) d l = absurd (omega (arith, l))

-- ---- journals
pub x_finished : IsFinished one_loop (Begin Start ∷ []) 0 []
x_finished = record {
  state = _;
  follows = record {
    forms = x_form ∷ [];
    are_forms = x_forms;
    run = x_run ([] ∷ []) (x_form ∷ []);
  };
  is = x_ends ([] ∷ []) (x_form ∷ []);
}

pub two_finished : IsFinished two_loop (Begin Start ∷ []) 0 []
two_finished = record {
  state = _;
  follows = record {
    forms = x_form ∷ x_form ∷ [];
    are_forms = two_forms;
    run = x_run ([] ∷ [] ∷ []) (x_form ∷ x_form ∷ []);
  };
  is = x_ends ([] ∷ [] ∷ []) (x_form ∷ x_form ∷ []);
}

pub zero_asked : IsAnswered one_loop []
    (Begin Start ∷ Begin Member ∷ Did Zero ∷ []) 0 [] nothing_left
zero_asked = record {
  state = _;
  follows = record {
    forms = x_form ∷ [];
    are_forms = x_forms;
    run = zero_run ([] ∷ []) (x_form ∷ []);
  };
  is = zero_answered ([] ∷ []) (x_form ∷ []);
}

pub some_asked : (t : List ℕ × Fraction) (p : Terms Fraction)
    → IsAnswered one_loop (t ∷ p) (Begin Start ∷ Begin Member ∷ []) 0 []
    (division.initial_state [] (t ∷ p))
some_asked t p = record {
  state = _;
  follows = record {
    forms = x_form ∷ [];
    are_forms = x_forms;
    run = asked_run ([] ∷ []) (x_form ∷ []) (t ∷ p);
  };
  is = some_answered ([] ∷ []) (x_form ∷ []) t p;
}
