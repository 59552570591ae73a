use Rattle.std.proofs.Common.{◌≤◌, length, map, get_or, sym, ap, subst, ◌∙◌, ◌≡◌}
use Rattle.std.specs.Prelude.{⊤}
use Rattle.algebra.specs.FieldArithmetic.{field_of}
use Rattle.algebra.specs.Scalars.{field}
use Rattle.algebra.proofs.ScalarFields.{is_field}
use Rattle.polynomials.specs.Polynomial.{IsPolynomial}
use Rattle.machines.specs.Basis.{AtPlaces, IsBasisOf}
use Rattle.machines.specs.Cut.{lead_number, monic}
use Rattle.machines.proofs.Ends.{monic_list}
use Rattle.machines.proofs.Joined.{first_refused, ran_later}
use Rattle.poly.specs.Seen.{terms_in, terms_each}
use Rattle.divide.specs.Current.{AreDivisors}
use Rattle.divide.proofs.Ended.{places_of}
use Rattle.divide.proofs.OneCut.{along}
use Rattle.divide.proofs.Refused.{passed_on}
use Rattle.complete.proofs.Made.{if_ok}
use Rattle.divide.specs.Limits.{list_limit}
use Rattle.reduced_basis.specs.Reduction.{HasReduced}
use Rattle.reduced_basis.proofs.reducing.reduced_basis_in.Given.{Over}
use Rattle.reduced_basis.proofs.reducing.reduced_basis_in.Goals.{After-deref}
use Rattle.reduced_basis.proofs.reducing.reduced_basis_in.Goals as goal

pub tidy_in-requires-clause-divisors : goal.tidy_in-requires-clause-divisors
tidy_in-requires-clause-divisors g c = subst (AreDivisors c.args.order c.args.arity)
    (sym c.deref.ensures.value) c.in_ok-basis.ensures.ran.to.gives.elements

pub tidy_in-requires-clause-few : goal.tidy_in-requires-clause-few
tidy_in-requires-clause-few g c = subst (λ l. length l ≤ list_limit) (sym c.deref.ensures.value)
    c.in_ok-basis.ensures.few

pub returns-in_err-basis-clause-ran : goal.returns-in_err-basis-clause-ran
returns-in_err-basis-clause-ran g c =
    let O = g.O.Order.order c.args.order in
    passed_on c.from_residual.result _ c.from_residual.ensures.1
    (first_refused g.K.Ring.scalars O O (λ gs. gs) (terms_each c.args.gens.now) {B = ⊤} (λ b s. ⊤)
    c.args.meter.now c.complete_in.new.meter _ c.in_err-basis.ensures.ran)

-- ---- behind the completion, whose list is monic
ones : (g : Over) (c : After-deref g) → AtPlaces (λ f. lead_number (field g.K.Ring.scalars) f
    ≡ g.K.Ring.scalars.one) (terms_each c.deref.result.now)
ones g c = subst (λ l. AtPlaces (λ f. lead_number (field g.K.Ring.scalars) f ≡ g.K.Ring.scalars.one)
    (terms_each l)) (sym c.deref.ensures.value) c.in_ok-basis.ensures.basis.monic

stays : (g : Over) (c : After-deref g)
    → map (monic (field g.K.Ring.scalars)) (terms_each c.deref.result.now)
    ≡ terms_each c.in_ok-basis.basis.items
stays g c =
    monic_list (field_of (field g.K.Ring.scalars) (is_field g.K.Ring.scalars g.met.K.Ring.ring
    g.met.K.Field.field g.met.K.Ring.zero_is)) (g.O.Order.order c.args.order)
    (g.met.O.Order.is_order c.args.order) c.args.arity
    (terms_each c.deref.result.now) (ones g c) ∙ ap terms_each c.deref.ensures.value

pub returns-clause-ran : goal.returns-clause-ran
returns-clause-ran g c =
    let at = (goal.at.returns-clause-ran g c).After-deref in
    let O = g.O.Order.order c.args.order in
    let first = c.in_ok-basis.ensures.ran in
    ran_later g.K.Ring.scalars O O (λ gs. gs) (terms_each c.args.gens.now)
    (HasReduced c.args.order c.args.arity) c.args.meter.now c.complete_in.new.meter
    c.tidy_in.new.meter first.limit first.to.last first.to.finished
    (terms_each c.deref.result.now) (stays g at ∙ first.to.gives.basis) (ones g at) (λ gs hs s l h.
    record { list = h.list ∙ sym l; elements = h.elements }) _ c.tidy_in.ensures.ran

pub returns-clause-reduced : goal.returns-clause-reduced
returns-clause-reduced g c =
    let S = g.K.Ring.scalars in
    let O = g.O.Order.order c.args.order in
    let gens = terms_each c.args.gens.now in
    let polynomials = places_of terms_in (IsPolynomial S.arithmetic O c.args.arity) c.args.gens.now
    (λ k d l. let one = c.requires.like k d l in along S g.O.Order.order _ _ _ _ _ one.0 one.1
    (get_or c.args.gens.now k d).polynomial) in
    let basis = subst (λ l. IsBasisOf (field S) O c.args.arity l gens)
    (sym (stays g (goal.at.returns-clause-reduced g c).After-deref))
    c.in_ok-basis.ensures.basis in
    if_ok _ _ c.tidy_in.result (λ gs r. r gens polynomials basis) c.tidy_in.ensures.reduced
