-- Parts that were read have as many polynomials as they must.
--   member_count       the list of so many that a member is
--   table_counted      a list of lists
--   stage_counted      a stage
use Rattle.std.proofs.Common.{◌≡◌, ℕ, ◌+◌, List, Ok, length, subst}
use Rattle.std.specs.Prelude.{All, Option, Some, None, option_and_then, codes, is_some}
use Rattle.serde_json.specs.Data.{Data, Items}
use Rattle.serde_json.specs.Find.{get, as_object}
use Rattle.algebra.specs.Fraction.{Fraction}
use Rattle.polynomials.specs.Order.{Rank, grevlex}
use Rattle.polynomials.specs.Terms.{Terms}
use Rattle.machines.specs.Elimination.{free_part}
use Rattle.cert_form.specs.Form.{count, list_with}
use Rattle.cert_form.specs.Path.{member_path}
use Rattle.cert_form.proofs.Readings.{on_ok, expect_ok, list_count, parts_all, parts_count}
use Rattle.full_cert.specs.Raw.{raw_at}
use Rattle.full_cert.specs.Tables.{raws_at, raws_with, table_at}
use Rattle.corollaries.specs.Representation.{pairs_of}
use Rattle.corollaries.specs.Stage.{Stage, block_order}
use Rattle.corollaries.specs.Counts.{IsStageCounted}
use Rattle.full_cert.specs.PartsForm.{stage_at}

-- the list of so many that a member is
pub member_count : (n : ℕ) (d : Option Data) (ds : Items) → option_and_then (list_with n) d
    ≡ Some ds
    → count ds ≡ n
member_count n None ds h = absurd (cc)
member_count n (Some d) ds h = list_count n d ds h

pub record IsTable (rows n : ℕ) (table : List (List (Terms Fraction))) : Type 0 where
  pub height : length table ≡ rows
  pub widths : All (λ row. length row ≡ n) table

pub table_counted : (rows n : ℕ) (O : Rank) (m : ℕ) (path : List ℕ) (d : Option Data)
    (table : List (List (Terms Fraction))) → table_at rows n O m path d ≡ Ok table
    → IsTable rows n table
table_counted rows n O m path d table h = record {
  height = parts_count (raws_with n O m) path rows _ table (member_count rows d) h;
  widths = parts_all (raws_with n O m) (λ row. length row ≡ n) (λ path d row is.
      parts_count (raw_at O m) path n _ row (list_count n d) is) path _ table h;
}

pub stage_counted : (k m gens : ℕ) (path : List ℕ) (d : Data) (s : Stage)
    → stage_at k m gens path d ≡ Ok s → IsStageCounted k gens s
stage_counted k m gens path d s h =
    let l = on_ok _ (raws_at (block_order k) (k + m) (member_path path (codes "list"))
    (get (codes "list") d)) s (expect_ok (is_some (as_object d)) path _ s h) in
    let g = on_ok _ (table_at gens (length l.part) (block_order k) (k + m)
    (member_path path (codes "gens")) (get (codes "gens") d)) s l.gives in
    let p = on_ok _ (table_at (length (pairs_of (length l.part))) (length l.part) (block_order k)
    (k + m) (member_path path (codes "pairs")) (get (codes "pairs") d)) s g.gives in
    let o = on_ok _ (raws_at grevlex m (member_path path (codes "out")) (get (codes "out") d)) s
    p.gives in
    let n = on_ok _ (table_at (length (free_part k l.part)) (length o.part) grevlex m
    (member_path path (codes "links")) (get (codes "links") d)) s o.gives in
    let gs = table_counted gens (length l.part) (block_order k) (k + m) _ _ g.part g.is in
    let ps = table_counted (length (pairs_of (length l.part))) (length l.part) (block_order k)
    (k + m) _ _ p.part p.is in
    let ns = table_counted (length (free_part k l.part)) (length o.part) grevlex m _ _ n.part
    n.is in
    let e = n.gives in
    let same : record {
      list = l.part;
      gens = g.part;
      pairs = p.part;
      out = o.part;
      links = n.part;
    } ≡ s = cc in
    subst (IsStageCounted k gens) same (record {
      gens = gs.height;
      gens_widths = gs.widths;
      pairs = ps.height;
      pairs_widths = ps.widths;
      links = ns.height;
      links_widths = ns.widths;
    })
