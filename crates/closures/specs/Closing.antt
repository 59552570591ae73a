-- The closing of a list of polynomials, as a machine: what becomes of them under the branches is divided by a list, level by level, and joined to it where a rest is left.
--   Candidate          a polynomial, with the polynomial of the list and the word that it comes from
--   first_candidate p  p itself, of no letter
--   turned program b x    the candidate composed with the map of branch b
--   level_from program b n xs     the candidates xs after an iteration of each of n branches, from branch b on
--   State              before it begins; in the division of a candidate, and in the completion of the
--                      list with its rest: the candidate's number, the list, what was kept of the
--                      level, the candidate, what waits of the level
--   Step               what comes next: an entry, or the end: with a list that is closed, or with a
--                      candidate whose composition with the start map isn't 0
--   from_waiting       what comes next between two tasks
--   next program s     what comes next
--   moves program s    the entry that comes next, if one does, and the state after it
use Rattle.std.specs.Prelude.{ℕ, zero, suc, List, [], ◌∷◌, ◌++◌, map, length, Option, Some, None}
use Rattle.algebra.specs.Fraction.{Fraction, rationals}
use Rattle.polynomials.specs.Terms.{Terms}
use Rattle.polynomials.specs.Order.{grevlex}
use Rattle.machines.specs.Event.{Event}
use Rattle.machines.specs.Collect.{collect}
use Rattle.machines.specs.Division as division
use Rattle.machines.specs.Elimination as elimination
use Rattle.machines.specs.Journal.{Entry, Begin, Did, Image, Extend}
use Rattle.loops.specs.Program.{Expr, Program}
use Rattle.loops.specs.Map.{start_map, composition}
use Rattle.rounds.specs.Word.{after_iteration}

pub record Candidate : Type 0 where
  pub of : Terms Fraction
  pub word : List ℕ
  pub polynomial : Terms Fraction

abbrev pub first_candidate : Terms Fraction → Candidate
first_candidate p = record { of = p; word = []; polynomial = p }

abbrev pub with_polynomial : Terms Fraction → Candidate → Candidate
with_polynomial q x = record { of = x.of; word = x.word; polynomial = q }

pub data State : Type 0 where
  fresh : State
  dividing : (n : ℕ) (gs : List (Terms Fraction)) (kept : List Candidate) (x : Candidate)
      (waiting : List Candidate) → division.State Fraction → State
  extending : (n : ℕ) (gs : List (Terms Fraction)) (kept : List Candidate) (x : Candidate)
      (waiting : List Candidate) → elimination.State Fraction → State

pub data Step : Type 0 where
  goes : Entry → State → Step
  closed : List (Terms Fraction) → Step
  countered : Candidate → Terms Fraction → Step

-- the list with one polynomial more, completed and tidied
abbrev pub next_extended : elimination.State Fraction → Option (Event × elimination.State Fraction)
next_extended s = elimination.next rationals grevlex grevlex (λ gs. gs) s

abbrev pub begin_extended : List (Terms Fraction) → Terms Fraction → elimination.State Fraction
begin_extended gs r = elimination.initial_state rationals grevlex (gs ++ r ∷ [])

abbrev pub extended_list : elimination.State Fraction → List (Terms Fraction)
extended_list s = elimination.list_of grevlex (λ gs. gs) s

module _ {At : Type 0} (program : Program (Expr At)) where
  abbrev pub turned : ℕ → Candidate → Candidate
  turned b x = record {
    of = x.of;
    word = b ∷ x.word;
    polynomial = collect rationals grevlex (after_iteration program b x.polynomial);
  }

  unfoldable pub level_from : ℕ → ℕ → List Candidate → List Candidate
  level_from b zero xs = []
  level_from b (suc n) xs = map (turned b) xs ++ level_from (suc b) n xs

  abbrev pub level_of : List Candidate → List Candidate
  level_of xs = level_from 1 (length program.branches) xs

  abbrev pub from_start : Terms Fraction → Terms Fraction
  from_start q = collect rationals grevlex (composition program q (start_map program))

  -- ---- what comes next
  abbrev pub begin_image : ℕ → List (Terms Fraction) → List Candidate → Candidate → List Candidate
      → Step
  begin_image n gs kept x waiting =
      goes (Begin (Image n))
      (dividing n gs kept x waiting (division.initial_state gs x.polynomial))

  unfoldable pub from_level : ℕ → List (Terms Fraction) → List Candidate → Step
  from_level n gs [] = closed gs
  from_level n gs (x ∷ waiting) = begin_image n gs [] x waiting

  unfoldable pub from_waiting : ℕ → List (Terms Fraction) → List Candidate → List Candidate → Step
  from_waiting n gs kept [] = from_level n gs (level_of kept)
  from_waiting n gs kept (x ∷ waiting) = begin_image n gs kept x waiting

  -- the candidate's rest, by its composition with the start map
  unfoldable pub by_start : ℕ → List (Terms Fraction) → List Candidate → Candidate
      → List Candidate → Terms Fraction → Step
  by_start n gs kept x waiting [] =
      goes (Begin (Extend n))
      (extending n gs kept x waiting (begin_extended gs x.polynomial))
  by_start n gs kept x waiting (t ∷ q) = countered x (t ∷ q)

  unfoldable pub by_rest : ℕ → List (Terms Fraction) → List Candidate → Candidate
      → List Candidate → Terms Fraction → Step
  by_rest n gs kept x waiting [] = from_waiting (suc n) gs kept waiting
  by_rest n gs kept x waiting (t ∷ r) =
      by_start n gs kept (with_polynomial (t ∷ r) x) waiting (from_start (t ∷ r))

  unfoldable pub divided : ℕ → List (Terms Fraction) → List Candidate → Candidate
      → List Candidate → division.State Fraction → Option (Event × division.State Fraction) → Step
  divided n gs kept x waiting s None = by_rest n gs kept x waiting (division.remainder s)
  divided n gs kept x waiting s (Some (e, t)) = goes (Did e) (dividing n gs kept x waiting t)

  unfoldable pub extended : ℕ → List (Terms Fraction) → List Candidate → Candidate
      → List Candidate → elimination.State Fraction
      → Option (Event × elimination.State Fraction) → Step
  extended n gs kept x waiting s None =
      from_waiting (suc n) (extended_list s) (kept ++ x ∷ []) waiting
  extended n gs kept x waiting s (Some (e, t)) = goes (Did e) (extending n gs kept x waiting t)

  module _ (P : List (Terms Fraction)) where
    unfoldable pub next : State → Step
    next fresh = from_waiting 0 [] [] (map first_candidate P)
    next (dividing n gs kept x waiting s) =
        divided n gs kept x waiting s (division.next rationals grevlex gs s)
    next (extending n gs kept x waiting s) = extended n gs kept x waiting s (next_extended s)

    abbrev pub move_of : Step → Option (Entry × State)
    move_of (goes e s) = Some (e, s)
    move_of (closed gs) = None
    move_of (countered x q) = None

    abbrev pub moves : State → Option (Entry × State)
    moves s = move_of (next s)
