use Rattle.std.proofs.Common.{◌≡◌, ℕ, List, refl, ap, sym, subst, ◌∙◌, Some, Ok, true, false}
use Rattle.std.specs.Prelude.{Bool, not, Option}
use Rattle.std.proofs.lemmas.Result.{err_from_is_err_and}
use Rattle.algebra.specs.Fraction.{Fraction}
use Rattle.polynomials.specs.Terms.{Terms}
use Rattle.poly_text.specs.CursorView.{rest}
use Rattle.poly_text.specs.NextToken.{seen_lexeme}
use Rattle.poly_text.specs.Telling.{Reads}
use Rattle.poly_text.specs.declared.cursor.Cursor.{Cursor}
use Rattle.poly_text.specs.Flat.{at_item, item, flat_language}
use Rattle.poly_text.specs.FlatReads.{state_of, behind_item}
use Rattle.poly_text.specs.Seen.{read_terms, HasRead}
use Rattle.poly_text.specs.declared.item.Item.{Item}
use Rattle.poly_text.proofs.SeenSteps.{nothing_read}
use Rattle.poly_text.proofs.ItemSteps.{from_item, behind_term, from_start, item_read, item_refused, term_repeated, term_operator, term_end, term_barred}
use Rattle.poly_text.proofs.flat_text.read_items.Goals as goal

-- behind an item that was read
behind : {names : List (List ℕ)} {y : Option (Terms Fraction)} (found : Terms Fraction)
    (negative : Bool) (k : Cursor) (i : Item) (end : Cursor)
    → y ≡ from_item names found negative (rest k)
    → ((found : Terms Fraction) (negative : Bool)
    → Reads flat_language item (state_of (at_item names found negative))
    (behind_item names found negative) k (Ok (i, end)))
    → y ≡ behind_term (behind_item names found negative i).context (rest end)
behind {names} found negative k i end same reads = same ∙ item_read names found negative (rest k)
    (behind_item names found negative i).context (rest end) (reads found negative)

pub loop-seen-init : goal.loop-seen-init
loop-seen-init c =
    let minus = c.behind_minus-negative in
    record {
      read = nothing_read _ _ _ c.new-terms.ensures.items c.new-seen.ensures.empty;
      same = from_start c.args.names.now c.args.text.now (rest c.new.result) (rest minus.result.1)
          minus.result.0 c.new.ensures (minus.ensures c.args.names.now)
          ∙ ap (λ ts. from_item c.args.names.now (read_terms ts) minus.result.0
          (rest minus.result.1)) (sym c.new-terms.ensures.items);
    }

pub returns-in_err-item-clause-reads : goal.returns-in_err-item-clause-reads
returns-in_err-item-clause-reads c =
    let found = read_terms c.loop-seen.terms.items in
    item_refused c.args.names.now found c.loop-seen.negative (rest c.loop-seen.cursor)
    c.in_err-item.field-0.0 (err_from_is_err_and c.from_residual.result
    c.from_residual.ensures.1) c.loop-seen.invariant.same
    (c.in_err-item.ensures.reads found c.loop-seen.negative)

pub returns-then-not-branch-clause-reads : goal.returns-then-not-branch-clause-reads
returns-then-not-branch-clause-reads c =
    term_repeated _ c.in_ok-item.end (c.in_ok-add_item.ensures.stands ∙ ap not c.if-not-branch.true)
    ∙ sym (behind _ _ c.loop-seen.cursor c.in_ok-item.item c.in_ok-item.end
    c.loop-seen.invariant.same c.in_ok-item.ensures.reads)

pub loop-seen-preserved-then-is_sign : goal.loop-seen-preserved-then-is_sign
loop-seen-preserved-then-is_sign c = record {
  read = subst (λ m. HasRead m c.add_item.new.terms.items c.add_item.new.seen)
      c.in_ok-item.ensures.len c.in_ok-add_item.ensures.read;
  same = behind _ _ c.loop-seen.cursor c.in_ok-item.item c.in_ok-item.end c.loop-seen.invariant.same
      c.in_ok-item.ensures.reads
      ∙ term_operator _ c.in_ok-item.end (c.in_ok-add_item.ensures.stands
      ∙ ap not c.if-not-branch.false) 43 (sym c.if-is_sign.ensures) refl c.next-cursor.result
      c.next-cursor.ensures.tokens
      ∙ ap (λ f. from_item c.args.names.now f false (rest c.next-cursor.result))
      (sym (c.in_ok-add_item.ensures.added c.if-not-branch.false));
}

pub loop-seen-preserved : goal.loop-seen-preserved
loop-seen-preserved c = record {
  read = subst (λ m. HasRead m c.add_item.new.terms.items c.add_item.new.seen)
      c.in_ok-item.ensures.len c.in_ok-add_item.ensures.read;
  same =
      let next = c.next-cursor-then-is_sign-2 in
      behind _ _ c.loop-seen.cursor c.in_ok-item.item c.in_ok-item.end c.loop-seen.invariant.same
      c.in_ok-item.ensures.reads
      ∙ term_operator _ c.in_ok-item.end (c.in_ok-add_item.ensures.stands
      ∙ ap not c.if-not-branch.false) 45 (sym c.if-is_sign-2.ensures) refl next.result
      next.ensures.tokens
      ∙ ap (λ f. from_item c.args.names.now f true (rest next.result))
      (sym (c.in_ok-add_item.ensures.added c.if-not-branch.false));
}

pub returns-in-End-clause-reads : goal.returns-in-End-clause-reads
returns-in-End-clause-reads c =
    ap Some (c.in_ok-add_item.ensures.added c.if-not-branch.false)
    ∙ term_end _ c.in_ok-item.end (c.in_ok-add_item.ensures.stands
    ∙ ap not c.if-not-branch.false) (ap seen_lexeme c.in-End.is)
    ∙ sym (behind _ _ c.loop-seen.cursor c.in_ok-item.item c.in_ok-item.end
    c.loop-seen.invariant.same c.in_ok-item.ensures.reads)

pub returns-in_default-clause-reads : goal.returns-in_default-clause-reads
returns-in_default-clause-reads c =
    term_barred _ c.in_ok-item.end (sym c.if-is_sign.ensures) (sym c.if-is_sign-2.ensures)
    c.in_default.not-End ∙ sym (behind _ _ c.loop-seen.cursor c.in_ok-item.item c.in_ok-item.end
    c.loop-seen.invariant.same c.in_ok-item.ensures.reads)
