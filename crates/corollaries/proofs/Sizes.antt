-- How many polynomials a stage gives.
--   rows_units, pair_rows_units     divisions add to the units
--   out_few                         what is given is no more than what is kept of what the completion begins with, and the units;  out_within: than all of that
--   stage_few, start_few            so it is of a stage, and of the start
--   stage_units                     a stage adds to the units
use Rattle.std.proofs.Common.{◌≡◌, ℕ, ◌+◌, ◌≤◌, List, [], ◌∷◌, ◌++◌, map, length, sym, ap, ◌∙◌, arith, refl, append-nil}
use Rattle.algebra.specs.Fraction.{Fraction, rationals}
use Rattle.polynomials.specs.Order.{Rank, grevlex}
use Rattle.polynomials.specs.Terms.{Terms}
use Rattle.machines.specs.Completion.{s_polynomial}
use Rattle.machines.specs.Cut.{monic}
use Rattle.machines.specs.Elimination.{free_part}
use Rattle.machines.specs.Event.{Pair}
use Rattle.machines.specs.Journal.{Entry, Did, units_of}
use Rattle.machines.specs.Tidying as tidying
use Rattle.machines.proofs.Joined.{later_finished}
use Rattle.machines.proofs.Lengths.{made, NothingKept, kept_made, list_few}
use Rattle.machines.proofs.Units.{units_added}
use Rattle.machines.proofs.Working.{units-push}
use Rattle.rounds.proofs.Lawful.{kept-nothing}
use Rattle.corollaries.specs.Stage.{Stage, block_order}
use Rattle.corollaries.specs.Rows.{IsDividedIn, AreDivided, with_pair, ArePairsDivided}
use Rattle.corollaries.specs.Making.{IsListMade, IsOutMade, IsStageMade, IsStartMade}
use Rattle.corollaries.proofs.Staged.{ones_begin, kept_ones}

module _ (O : Rank) (gs : List (Terms Fraction)) where
  row_units : (p : Terms Fraction) (row : List (Terms Fraction)) (before after : List Entry)
      → IsDividedIn O gs p row before after → units_of before ≤ units_of after
  row_units p row before after d =
      let w = d.finished.work in
      let u = units_added before after w.events w.entries in
      omega (arith, u)

  pub rows_units : (ps : List (Terms Fraction)) (rows : List (List (Terms Fraction)))
      (before after : List Entry) → AreDivided O gs ps rows before after
      → units_of before ≤ units_of after
  unfolding AreDivided
  rows_units [] [] before after e = let u = ap units_of e in omega (arith, u)
  rows_units [] (r ∷ rows) before after e = absurd e
  rows_units (p ∷ ps) [] before after e = absurd e
  rows_units (p ∷ ps) (r ∷ rows) before after (mid, here, rest) =
      let a = row_units p r before mid here in
      let b = rows_units ps rows mid after rest in
      omega (arith, a, b)

  pub pair_rows_units : (ab : List (ℕ × ℕ)) (rows : List (List (Terms Fraction)))
      (before after : List Entry) → ArePairsDivided O gs ab rows before after
      → units_of before ≤ units_of after
  unfolding ArePairsDivided
  pair_rows_units [] [] before after e = let u = ap units_of e in omega (arith, u)
  pair_rows_units [] (r ∷ rows) before after e = absurd e
  pair_rows_units (a ∷ ab) [] before after e = absurd e
  pair_rows_units (a ∷ ab) (r ∷ rows) before after (mid, here, rest) =
      let u = units-push before (Did (Pair a.0 a.1)) in
      let v = row_units (s_polynomial rationals O gs a) r (with_pair O gs a before) mid here in
      let w = pair_rows_units ab rows mid after rest in
      omega (arith, u, v, w)

-- ---- what is given
module _ (k : ℕ) (O : Rank) (hs list out : List (Terms Fraction))
    (before listed paired tidied : List Entry) (m : IsListMade O hs list before listed)
    (behind : units_of listed ≤ units_of paired) (gs : List (Terms Fraction))
    (is : gs ≡ free_part k list) (o : IsOutMade gs out paired tidied) where
  begins : map (monic rationals) gs ≡ free_part k m.last.basis
  begins = ap (map (monic rationals)) is
      ∙ ones_begin (free_part k list) (kept_ones k list m.monic) ∙ ap (free_part k) m.is

  pub out_few : length out + units_of before ≤ length (free_part k (made rationals k hs))
      + units_of tidied
  out_few =
      let w = o.finished.work in
      let to = listed ++ map Did w.events in
      let e = later_finished rationals O grevlex (free_part k) hs before listed to m.last m.finished
      (tidying.initial_list rationals grevlex gs) (ap (tidying.by_lead grevlex) begins) o.last
      (record {
        work = record { events = w.events; entries = refl; run = w.run };
        ended = o.finished.ended;
      }) in
      let f = list_few rationals k O grevlex hs before to e.last e.finished.work in
      let a = ap length e.list in
      let b = ap length o.is in
      let c = units_added listed to w.events refl in
      let d = units_added paired tidied w.events w.entries in
      omega (arith, f, a, b, c, d, behind)

  all_kept : length (free_part k (made rationals k hs)) ≤ length hs
  unfolding NothingKept
  all_kept =
      let a = kept_made rationals k hs [] tt in
      let b = ap (λ l. length (free_part k (made rationals k l))) (append-nil hs) in
      omega (arith, a, b)

  pub out_within : length out ≤ length hs + units_of tidied
  out_within = let a = out_few in let b = all_kept in omega (arith, a, b)

pub stage_few : (k : ℕ) (hs : List (Terms Fraction)) (s : Stage) (before after : List Entry)
    → IsStageMade k hs s before after
    → length s.out + units_of before ≤ length (free_part k (made rationals k hs)) + units_of after
stage_few k hs s before after m =
    let a = rows_units (block_order k) s.list hs s.gens m.listed m.divided m.gens in
    let b = pair_rows_units (block_order k) s.list _ s.pairs m.divided m.paired m.pairs in
    let l : units_of m.listed ≤ units_of m.paired = omega (arith, a, b) in
    let f = out_few k (block_order k) hs s.list s.out before m.listed m.paired m.tidied m.list l
    (free_part k s.list) refl m.out in
    let d = rows_units grevlex s.out (free_part k s.list) s.links m.tidied after m.links in
    omega (arith, f, d)

pub start_few : (hs out : List (Terms Fraction)) (links : List (List (Terms Fraction)))
    (before after : List Entry) → IsStartMade hs out links before after
    → length out ≤ length hs + units_of after
start_few hs out links before after m =
    let l : units_of m.listed ≤ units_of m.listed = omega arith in
    let f = out_within 0 grevlex hs m.list out before m.listed m.listed m.tidied m.completed l
    m.list (sym (kept-nothing m.list)) m.given in
    let d = rows_units grevlex out hs links m.tidied after m.divided in
    omega (arith, f, d)

pub stage_units : (k : ℕ) (hs : List (Terms Fraction)) (s : Stage) (before after : List Entry)
    → IsStageMade k hs s before after → units_of before ≤ units_of after
stage_units k hs s before after m =
    let w = m.list.finished.work in
    let v = m.out.finished.work in
    let a = units_added before m.listed w.events w.entries in
    let b = rows_units (block_order k) s.list hs s.gens m.listed m.divided m.gens in
    let c = pair_rows_units (block_order k) s.list _ s.pairs m.divided m.paired m.pairs in
    let d = units_added m.paired m.tidied v.events v.entries in
    let e = rows_units grevlex s.out (free_part k s.list) s.links m.tidied after m.links in
    omega (arith, a, b, c, d, e)
