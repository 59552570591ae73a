use Rattle.std.proofs.Common.{◌≡◌, ◌≤◌, ◌<◌, suc, length, arith, sym, ap, subst, ◌∙◌, All}
use Rattle.std.proofs.lemmas.List.Elements.{All-weaker}
use Rattle.polynomials.specs.Terms.{retold}
use Rattle.polynomials.proofs.Distinct.{distinct_falls}
use Rattle.polynomials.proofs.Orders.{grevlex_order}
use Rattle.frac128.specs.FracMeaning.{fraction_of}
use Rattle.poly.specs.View.{terms_of}
use Rattle.poly.proofs.Steps.{all_arity}
use Rattle.program_model.specs.Widening.{widen}
use Rattle.program_model.proofs.Wider.{terms_arity, widened_arity, widened_distinct, pairs_distinct, made_widened}
use Rattle.program_model.proofs.widening.widened.Goals as goal

pub widened_terms-requires-clause-room : goal.widened_terms-requires-clause-room
widened_terms-requires-clause-room c =
    let same = c.deref.ensures.value ∙ ap (λ v. v.items) c.terms.ensures in
    let r = c.requires.room in
    subst (All (λ t. length t.mono < 4096)) (sym same)
    (All-weaker (λ t. length t.mono ≡ c.args.poly.now.arity) (λ t. length t.mono < 4096)
    (λ t e. omega (arith, e, r)) c.args.poly.now.terms.items
    (all_arity fraction_of _ c.args.poly.now.terms.items c.args.poly.now.polynomial.arity))

pub widened_terms-requires-clause-at : goal.widened_terms-requires-clause-at
widened_terms-requires-clause-at c =
    let same = c.deref.ensures.value ∙ ap (λ v. v.items) c.terms.ensures in
    let r = c.requires.at in
    subst (All (λ t. c.args.at ≤ length t.mono)) (sym same)
    (All-weaker (λ t. length t.mono ≡ c.args.poly.now.arity) (λ t. c.args.at ≤ length t.mono)
    (λ t e. omega (arith, e, r)) c.args.poly.now.terms.items
    (all_arity fraction_of _ c.args.poly.now.terms.items c.args.poly.now.polynomial.arity))

pub from_distinct-requires-clause-arities : goal.from_distinct-requires-clause-arities
from_distinct-requires-clause-arities c =
    let same = c.deref.ensures.value ∙ ap (λ v. v.items) c.terms.ensures in
    let seen = c.in_ok-terms.ensures.ok
    ∙ ap (λ ts. retold (widen c.args.at) (terms_of fraction_of ts)) same in
    let e = c.arity.ensures.arity in
    subst (λ n. All (λ t. length t.mono ≡ n) c.in_ok-terms.terms.items)
    (omega (arith, e))
    (terms_arity fraction_of (suc c.args.poly.now.arity) c.in_ok-terms.terms.items _ seen
    (widened_arity c.args.at c.args.poly.now.arity _ c.args.poly.now.polynomial.arity))

pub from_distinct-requires-clause-distinct : goal.from_distinct-requires-clause-distinct
from_distinct-requires-clause-distinct c =
    let same = c.deref.ensures.value ∙ ap (λ v. v.items) c.terms.ensures in
    let seen = c.in_ok-terms.ensures.ok
    ∙ ap (λ ts. retold (widen c.args.at) (terms_of fraction_of ts)) same in
    pairs_distinct fraction_of c.in_ok-terms.terms.items _ seen
    (widened_distinct c.args.at c.args.poly.now.arity _ c.args.poly.now.polynomial.arity
    (distinct_falls _ grevlex_order _ c.args.poly.now.polynomial.falls))

pub returns : goal.returns
returns c =
    let same = c.deref.ensures.value ∙ ap (λ v. v.items) c.terms.ensures in
    let seen = c.in_ok-terms.ensures.ok
    ∙ ap (λ ts. retold (widen c.args.at) (terms_of fraction_of ts)) same in
    let e = c.arity.ensures.arity in
    record {
      ok = made_widened c.args.at _ c.args.poly.now _ _ c.from_distinct.result (omega (arith, e))
          seen c.from_distinct.ensures;
    }
