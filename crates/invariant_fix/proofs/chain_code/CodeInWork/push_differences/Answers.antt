use Rattle.std.proofs.Common.{All, length, Vec, Global, ap, sym, subst, ◌∙◌}
use Rattle.std.proofs.lemmas.List.{append-nil}
use Rattle.std.proofs.lemmas.Result.{err_from_is_err_and}
use Rattle.algebra.proofs.Lists.{have_more}
use Rattle.poly.specs.Seen.{terms_each}
use Rattle.invariant_fix.specs.Blocked.{Blocked}
use Rattle.invariant_fix.specs.Code.{put_value, HasItsCopies, IsPastValueOf}
use Rattle.invariant_fix.proofs.Making.{value_at, value_arity, one_difference, no_difference, past_difference}
use Rattle.invariant_fix.proofs.chain_code.CodeInWork.push_differences.Goals.{then-is_assigned+in_ok-difference+in_ok-push, else-is_assigned}
use Rattle.invariant_fix.proofs.chain_code.CodeInWork.push_differences.Goals as goal

pub loop-var-init : goal.loop-var-init
loop-var-init c =
    record { list = sym (append-nil (terms_each c.args.gens.now.items)); block = c.requires.block }

pub difference-requires-clause-value : goal.difference-requires-clause-value
difference-requires-clause-value c =
    value_arity c.args.self.now.values.now c.loop-var.var c.index-values-var.result
    c.loop-var-test.true
    c.index-values-var.is c.requires.work.values

pub loop-var-preserved : goal.loop-var-preserved
loop-var-preserved c =
    let w = c.args.self.now in
    let b = w.code.now in
    let fs = w.values.now in
    let v = c.loop-var.var in
    let first = terms_each c.args.gens.now.items in
    elim c.if-is_assigned.branch [
      | then-is_assigned+in_ok-difference+in_ok-push x ↦ (
          let p = x.in_ok-difference.field-0 in
          let value = value_at fs v x.index-values-var.result c.loop-var-test.true
          x.index-values-var.is in
          record {
            list = ap (λ (g : Vec Blocked Global). terms_each g.items) x.gens-is
                ∙ one_difference b fs v first c.loop-var.gens.items p
                (sym c.is_assigned.ensures ∙ x.if-is_assigned.true) x.in_ok-push.ensures.items
                (x.in_ok-difference.ensures.difference ∙ ap (put_value (length fs) b v) value)
                c.loop-var.invariant.list;
            block = subst (λ (g : Vec Blocked Global). All (HasItsCopies w) g.items) (sym x.gens-is)
                (have_more (HasItsCopies w) _ _ p x.in_ok-push.ensures.items
                c.loop-var.invariant.block x.in_ok-difference.ensures.block);
          })
      | else-is_assigned x ↦ record {
        list = ap (λ (g : Vec Blocked Global). terms_each g.items) x.gens-is
            ∙ no_difference b fs v first
            (sym c.is_assigned.ensures ∙ x.if-is_assigned.false) c.loop-var.invariant.list;
        block = subst (λ (g : Vec Blocked Global). All (HasItsCopies w) g.items) (sym x.gens-is)
            c.loop-var.invariant.block;
      }
    ]

pub returns-in_err-difference-clause-wide : goal.returns-in_err-difference-clause-wide
returns-in_err-difference-clause-wide c =
    let b = c.args.self.now.code.now in
    let fs = c.args.self.now.values.now in
    let v = c.loop-var.var in
    let p = err_from_is_err_and c.from_residual.result c.from_residual.ensures.1 in
    λ h. past_difference b fs v c.loop-var-test.true (sym c.if-is_assigned.ensures)
    (subst (λ f. IsPastValueOf (length fs) b f v)
    (value_at fs v c.index-values-var.result c.loop-var-test.true c.index-values-var.is)
    (c.in_err-difference.ensures.wide (cc (p.1, p.2, h))))
