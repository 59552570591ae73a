use Rattle.std.proofs.Common.{refl, sym, subst, arith}
use Rattle.complete.specs.Table.{IsTriangle}
use Rattle.complete.proofs.Tables.{row_long, row_without, without_triangle}
use Rattle.complete.proofs.table.Table.take.Goals as goal

pub index_mut-requires-2 : goal.index_mut-requires-2
index_mut-requires-2 c =
    let long = row_long (λ row. row.items) c.args.self.now.rows.items c.args.right
    c.index_mut.result.now c.requires.inside c.index_mut.ensures.value c.args.self.now.triangle in
    let apart = c.requires.apart in
    omega (arith, long, apart)

pub invariant_of-self : goal.invariant_of-self
invariant_of-self c = record {
  triangle = subst IsTriangle (sym (row_without (λ row. row.items) c.args.self.now.rows.items
      c.args.right c.index_mut.result.now c.requires.inside c.index_mut.ensures.value c.args.left _
      refl))
      (without_triangle _ c.args.left c.args.right c.requires.inside c.args.self.now.triangle);
}

pub returns : goal.returns
returns c = row_without (λ row. row.items) c.args.self.now.rows.items c.args.right
    c.index_mut.result.now c.requires.inside c.index_mut.ensures.value c.args.left _ refl
