use Rattle.std.proofs.Common.{◌≡◌, length, rules, subst, Some, true}
use Rattle.std.specs.Prelude.{All}
use Rattle.serde_json.specs.Find.{as_array}
use Rattle.serde_json.specs.View.{view, items_view}
use Rattle.algebra.specs.Fraction.{ℚ}
use Rattle.polynomials.specs.Polynomial.{IsPolynomial}
use Rattle.frac128.specs.declared.fraction.Frac.{Frac}
use Rattle.poly.specs.declared.Term.{Term}
use Rattle.poly.specs.Seen.{Is, terms_in}
use Rattle.poly_text.specs.Seen.{read_terms}
use Rattle.cert_form.specs.Path.{path_bytes}
use Rattle.full_cert.specs.Raw as spec
use Rattle.full_cert.specs.Raw.{every, has_term_form}
use Rattle.full_cert.proofs.Polynomials.{arity_of_read, raw_is}
use Rattle.full_cert.proofs.raw.read_raw.Goals as goal

pub returns-clause-reads : goal.returns-clause-reads
returns-clause-reads g c =
    let O = g.O.Order.order c.args.order in
    let p = c.in_ok-from_distinct.field-0 in
    let items = items_view c.in-Some.list.now.items in
    let ts = read_terms c.in-Some-2.terms.items in
    let is : Is c.args.order c.args.arity ts p = c.in_ok-from_distinct.ensures in
    let falls : IsPolynomial ℚ O c.args.arity (terms_in p) =
    subst (λ n. IsPolynomial ℚ O n (terms_in p)) is.arity
    (subst (λ o. IsPolynomial ℚ (g.O.Order.order o) p.arity (terms_in p)) is.order
    p.polynomial) in
    let list : as_array (view c.args.value.now) ≡ Some items = search rules in
    let form : every has_term_form items ≡ true = search rules in
    let same : Some ts ≡ spec.terms_of c.args.arity items = search rules in
    let long : All (λ (t : Term Frac). length t.mono ≡ c.args.arity) c.in-Some-2.terms.items =
    search rules in
    raw_is O c.args.arity (path_bytes c.args.path.now) items (view c.args.value.now) list
    (g.met.O.Order.is_order c.args.order) form ts (terms_in p) same
    (arity_of_read c.args.arity c.in-Some-2.terms.items long) falls is.same
