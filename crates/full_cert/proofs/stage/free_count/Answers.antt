use Rattle.std.proofs.Common.{◌∙◌, sym, arith}
use Rattle.poly.specs.Seen.{terms_in}
use Rattle.full_cert.proofs.Counts.{none_kept, free_in, free_out}
use Rattle.full_cert.proofs.stage.free_count.Goals as goal
use Rattle.full_cert.proofs.stage.free_count.Goals.{then-is_free, else-is_free}

pub loop-p-init : goal.loop-p-init
loop-p-init c = record { few = omega arith; so_far = none_kept c.args.front }

pub loop-p-preserved : goal.loop-p-preserved
loop-p-preserved c =
    let few = c.loop-p.invariant.few in
    record {
      few = elim c.if-is_free.branch [
        | then-is_free w ↦ omega (arith, w.count-is, few)
        | else-is_free w ↦ omega (arith, w.count-is, few)
      ];
      so_far = elim c.if-is_free.branch [
        | then-is_free w ↦ w.count-is ∙ free_in terms_in c.args.front c.args.list.now
            c.loop-p.p-index
            c.p-item.result c.loop-p.count c.loop-p-test.true c.p-item.is
            c.loop-p.invariant.so_far (sym c.is_free.ensures ∙ w.if-is_free.true)
        | else-is_free w ↦ w.count-is ∙ free_out terms_in c.args.front c.args.list.now
            c.loop-p.p-index c.p-item.result c.loop-p.count c.loop-p-test.true c.p-item.is
            c.loop-p.invariant.so_far (sym c.is_free.ensures ∙ w.if-is_free.false)
      ];
    }
