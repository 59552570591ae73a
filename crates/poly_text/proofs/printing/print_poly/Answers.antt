use Rattle.std.proofs.Common.{◌≡◌, List, ◌++◌, length, sym, ap, ◌∙◌, subst, arith, All}
use Rattle.std.specs.Prelude.{IsSomeAnd}
use Rattle.std.specs.Global.{Vec}
use Rattle.std.proofs.lemmas.List.Elements.{All-map, All-weaker}
use Rattle.algebra.specs.Fraction.{ℚ}
use Rattle.frac128.specs.declared.fraction.Frac.{Frac}
use Rattle.frac128.specs.FracMeaning.{fraction_of}
use Rattle.polynomials.specs.Order.{grevlex}
use Rattle.polynomials.specs.Polynomial.{Arity, IsPolynomial}
use Rattle.polynomials.specs.Terms.{Same}
use Rattle.poly.specs.declared.Term.{Term}
use Rattle.poly.specs.View.{term_of, terms_of}
use Rattle.poly.specs.Seen.{terms_in}
use Rattle.poly.proofs.Steps.{all_arity}
use Rattle.poly_text.specs.Flat.{flat_of}
use Rattle.poly_text.specs.Narrow.{IsNarrow}
use Rattle.poly_text.specs.Printed.{polynomial_text}
use Rattle.poly_text.proofs.PrintedSays.{printed_reads}
use Rattle.poly_text.proofs.PrintedTerms.{IsWithin}
use Rattle.poly_text.proofs.printing.print_poly.Goals as goal

-- the terms of the slice are those of the polynomial
seen : (ts : List (Term Frac)) (read terms : Vec (Term Frac)) → ts ≡ read.items → read ≡ terms
    → terms_of fraction_of ts ≡ terms_of fraction_of terms.items
seen ts read terms value is = ap (terms_of fraction_of) (value
    ∙ ap (λ (v : Vec (Term Frac)). v.items) is)

pub push_terms-requires : goal.push_terms-requires
push_terms-requires c =
    let m = c.args.p.now.arity in
    let are = seen c.deref.result.now c.terms.result.now c.args.p.now.terms c.deref.ensures.value
    c.terms.ensures in
    All-weaker (λ (t : Term Frac). length t.mono ≡ m) (IsWithin (length c.args.names.now)) (λ t is.
    omega (arith, is, c.requires)) c.deref.result.now
    (all_arity fraction_of m c.deref.result.now
    (subst (Arity m) (sym are) c.args.p.now.polynomial.arity))

pub returns-clause-read_back : goal.returns-clause-read_back
returns-clause-read_back c =
    let names = c.args.names.now in
    let ts = c.deref.result.now in
    let p = terms_in c.args.p.now in
    let are = seen ts c.terms.result.now c.args.p.now.terms c.deref.ensures.value c.terms.ensures in
    subst (λ bs. IsSomeAnd (flat_of names bs) (λ q. Same ℚ q p))
    (sym (c.in_ok-push_terms.ensures.text
    ∙ ap (λ bs. bs ++ polynomial_text names (terms_of fraction_of ts))
    c.new-text.ensures.bytes ∙ ap (polynomial_text names) are))
    (printed_reads names c.len.ensures.names.plain c.len.ensures.names.differ p
    (subst (λ n. IsPolynomial ℚ grevlex n p) (sym c.requires) c.args.p.now.polynomial)
    (subst (All IsNarrow) are (All-map IsNarrow (term_of fraction_of) ts
    c.in_ok-push_terms.ensures.narrow)))
