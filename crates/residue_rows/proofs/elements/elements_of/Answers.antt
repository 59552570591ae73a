use Rattle.std.proofs.Common.{◌≡◌, ◌≢◌, ◌+◌, ◌≤◌, inl, inr, true, false, All, pos, [], ◌∷◌, length, map, not, sym, ap, subst, ◌∙◌, arith}
use Rattle.std.proofs.lemmas.List.{map-append, length_push}
use Rattle.std.proofs.lemmas.List.Elements.{All-nil, All-push}
use Rattle.std.proofs.lemmas.Result.{err_from_is_err_and}
use Rattle.algebra.specs.Each.{Each}
use Rattle.machines.specs.Cut.{lead_of}
use Rattle.poly.specs.Seen.{terms_in, terms_each}
use Rattle.residue_rows.specs.Modulus.{modulus}
use Rattle.residue_rows.specs.EchelonForm.{IsEchelonOf, IsReducedEchelon}
use Rattle.residue_rows.specs.ElementParts.{LeadsElement, IsFirstUntold, has_divisor}
use Rattle.residue_rows.specs.Elements.{IsCandidate}
use Rattle.residue_rows.proofs.Leading.{told_before, leads_at}
use Rattle.residue_rows.proofs.Leads.{IsFoundTo, found_first, found_no, found_push, found_tidy, found_standard}
use Rattle.residue_rows.proofs.ElementSteps.{no_one, leads_wide, leads_some, found_all, mono_read, row_leads}
use Rattle.residue_rows.proofs.Untold.{no_candidate}
use Rattle.residue_rows.proofs.elements.elements_of.Goals as goal
use Rattle.residue_rows.proofs.elements.elements_of.Goals.{then-is_none+then-not-is_led+in_ok-element_at+in_ok-push, then-is_none+else-not-is_led, else-is_none}

pub loop-column-init : goal.loop-column-init
loop-column-init c = record {
  arities = subst (All (λ p. p.arity ≡ c.args.arity)) (sym c.new-elements.ensures.items)
      (All-nil (λ p. p.arity ≡ c.args.arity));
  few = subst (λ l. length l ≤ 0) (sym c.new-elements.ensures.items) (omega arith);
  found = subst (λ l. IsFoundTo (pos modulus) c.args.monomials.now c.args.echelon.now.rows 0
      (terms_each l)) (sym c.new-elements.ensures.items) (found_first (pos modulus) _ _);
}

pub is_led-requires-clause-arities : goal.is_led-requires-clause-arities
is_led-requires-clause-arities c =
    subst (λ l. Each (λ g. length (lead_of g) ≡ length c.index-monomials-column.result)
    (terms_each l)) (sym c.deref.ensures.value) (leads_wide _ c.requires.arities
    c.loop-column.invariant.found c.loop-column-test.true c.index-monomials-column.is)

pub is_led-requires-clause-nonzero : goal.is_led-requires-clause-nonzero
is_led-requires-clause-nonzero c =
    subst (λ l. Each (λ g. g ≢ []) (terms_each l)) (sym c.deref.ensures.value)
    (leads_some _ c.requires.arities c.loop-column.invariant.found)

pub returns-in_err-element_at-clause-wide : goal.returns-in_err-element_at-clause-wide
returns-in_err-element_at-clause-wide c =
    let p = err_from_is_err_and c.from_residual.result c.from_residual.ensures.1 in
    λ lead h given q e poly can.
    let w = c.in_err-element_at.ensures.wide lead (cc (p.1, p.2, h)) in
    no_candidate c.args.arity c.args.monomials.now c.args.echelon.now.rows c.loop-column.column
    c.loop-column-test.true no_one given
    (subst (λ n. IsEchelonOf (pos modulus) n given c.args.echelon.now.rows) c.requires.width e) w.1
    q poly
    (subst (λ k. IsCandidate (pos modulus) c.args.monomials.now c.args.echelon.now.rows k q) w.0
    can)

pub returns-in_err-element_at-clause-leads : goal.returns-in_err-element_at-clause-leads
returns-in_err-element_at-clause-leads c =
    let p = err_from_is_err_and c.from_residual.result c.from_residual.ensures.1 in
    let es = c.args.monomials.now in
    let ls = c.args.echelon.now.rows in
    let olds = c.loop-column.elements.items in
    let mono = mono_read es c.loop-column.column
    c.loop-column-test.true c.index-monomials-column.is in
    λ lead h.
    let w = c.in_err-element_at.ensures.wide lead (cc (p.1, p.2, h)) in
    subst (LeadsElement (pos modulus) es ls) (sym w.0) (leads_at (pos modulus) no_one (length es) es
    ls (subst (λ n. IsReducedEchelon (pos modulus) n ls) c.requires.width c.row_at.ensures.kept)
    c.args.arity c.loop-column-test.true c.requires.arities c.loop-column.invariant.found
    (subst (λ e. has_divisor (map lead_of (terms_each olds)) e ≡ false) mono (subst (λ l.
    has_divisor (map lead_of (terms_each l)) c.index-monomials-column.result ≡ false)
    c.deref.ensures.value (sym c.is_led.ensures ∙ c.if-not-is_led.true)))
    (c.row_at.ensures.none (c.is_none.ensures ∙ ap not c.if-is_none.true)))

pub returns-in_err-element_at-clause-untold : goal.returns-in_err-element_at-clause-untold
returns-in_err-element_at-clause-untold c =
    let p = err_from_is_err_and c.from_residual.result c.from_residual.ensures.1 in
    let es = c.args.monomials.now in
    let ls = c.args.echelon.now.rows in
    λ lead h.
    let w = c.in_err-element_at.ensures.wide lead (cc (p.1, p.2, h)) in
    subst (IsFirstUntold (pos modulus) es ls) (sym w.0) (record {
      untold = w.1;
      before = told_before (pos modulus) no_one (length es) es ls
          (subst (λ n. IsReducedEchelon (pos modulus) n ls) c.requires.width c.row_at.ensures.kept)
          c.args.arity c.loop-column.column c.loop-column-test.true c.requires.arities
          c.requires.ascend c.loop-column.invariant.found;
    })

pub loop-column-preserved : goal.loop-column-preserved
loop-column-preserved c =
    let es = c.args.monomials.now in
    let ls = c.args.echelon.now.rows in
    let k = c.loop-column.column in
    let olds = c.loop-column.elements.items in
    let mono = mono_read es k c.loop-column-test.true c.index-monomials-column.is in
    elim c.if-is_none.branch [
      | then-is_none+then-not-is_led+in_ok-element_at+in_ok-push w ↦ record {
        arities = subst (λ v. All (λ p. p.arity ≡ c.args.arity) v.items) (sym w.elements-is)
            (subst (All (λ p. p.arity ≡ c.args.arity)) (sym w.in_ok-push.ensures.items)
            (All-push (λ p. p.arity ≡ c.args.arity) olds _
            c.loop-column.invariant.arities w.in_ok-element_at.ensures.arity));
        few = subst (λ v. length v.items ≤ k + 1) (sym w.elements-is)
            (subst (λ l. length l ≤ k + 1) (sym w.in_ok-push.ensures.items)
            (let p = length_push olds w.in_ok-element_at.field-0 in
            omega (arith, p, c.loop-column.invariant.few)));
        found = subst (λ v. IsFoundTo (pos modulus) es ls (k + 1) (terms_each v.items))
            (sym w.elements-is) (subst (λ l. IsFoundTo (pos modulus) es ls (k + 1) (terms_each l))
            (sym w.in_ok-push.ensures.items) (subst (IsFoundTo (pos modulus) es ls (k + 1))
            (sym (map-append terms_in olds (w.in_ok-element_at.field-0 ∷ [])))
            (found_push (pos modulus) es ls c.requires.ascend k c.loop-column-test.true
            c.loop-column.invariant.found (subst (λ e. has_divisor (map lead_of (terms_each olds)) e
            ≡ false) mono (subst (λ l. has_divisor (map lead_of (terms_each l))
            c.index-monomials-column.result ≡ false) w.deref.ensures.value
            (sym w.is_led.ensures ∙ w.if-not-is_led.true))) w.in_ok-element_at.ensures.element)));
      }
      | then-is_none+else-not-is_led w ↦ record {
        arities = subst (λ v. All (λ p. p.arity ≡ c.args.arity) v.items) (sym w.elements-is)
            c.loop-column.invariant.arities;
        few = subst (λ v. length v.items ≤ k + 1) (sym w.elements-is)
            (omega (arith, c.loop-column.invariant.few));
        found = subst (λ v. IsFoundTo (pos modulus) es ls (k + 1) (terms_each v.items))
            (sym w.elements-is) (found_no (pos modulus) es ls k c.loop-column.invariant.found
            (inr (subst (λ e. has_divisor (map lead_of (terms_each olds)) e ≡ true) mono
            (subst (λ l. has_divisor (map lead_of (terms_each l)) c.index-monomials-column.result
            ≡ true) w.deref.ensures.value (sym w.is_led.ensures ∙ w.if-not-is_led.false)))));
      }
      | else-is_none w ↦ record {
        arities = subst (λ v. All (λ p. p.arity ≡ c.args.arity) v.items) (sym w.elements-is)
            c.loop-column.invariant.arities;
        few = subst (λ v. length v.items ≤ k + 1) (sym w.elements-is)
            (omega (arith, c.loop-column.invariant.few));
        found = subst (λ v. IsFoundTo (pos modulus) es ls (k + 1) (terms_each v.items))
            (sym w.elements-is) (found_no (pos modulus) es ls k c.loop-column.invariant.found
            (inl (row_leads c.row_at.result (λ r. r.now) k ls
            (c.is_none.ensures ∙ ap not w.if-is_none.false) c.row_at.ensures.some
            c.row_at.ensures.within)));
      }
    ]

pub returns-clause-tidy : goal.returns-clause-tidy
returns-clause-tidy c = λ d given are e values.
    found_tidy c.args.arity d are no_one given (subst (λ n. IsEchelonOf (pos modulus) n given
    c.args.echelon.now.rows) c.requires.width e) values (found_all _ c.requires.arities
    c.loop-column.invariant.found c.loop-column-test.false c.loop-column.auto.column-end)

pub returns-clause-standard : goal.returns-clause-standard
returns-clause-standard c = λ d are.
    found_standard (pos modulus) _ _ c.args.arity d are (terms_each c.loop-column.elements.items)
    (found_all _ c.requires.arities c.loop-column.invariant.found c.loop-column-test.false
    c.loop-column.auto.column-end)

pub returns-clause-few : goal.returns-clause-few
returns-clause-few c =
    omega (arith, c.loop-column.invariant.few, c.loop-column.auto.column-end)

pub returns-clause-told : goal.returns-clause-told
returns-clause-told c =
    (found_all _ c.requires.arities c.loop-column.invariant.found
    c.loop-column-test.false c.loop-column.auto.column-end).elements
