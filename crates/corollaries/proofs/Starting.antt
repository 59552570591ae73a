-- The start as the code makes it (specs/Making).
--   start_awaits, start_refused     behind the divisions by what is given comes the first round; a refusal
--   start_lost                      behind its beginning, where memory is wanting
use Rattle.std.proofs.Common.{◌≡◌, ◌⊎◌, inl, inr, ℕ, List, [], ◌∷◌, ◌++◌, refl, sym, ap, subst, ◌∙◌, append-nil}
use Rattle.algebra.specs.Fraction.{Fraction, fractions}
use Rattle.polynomials.specs.Order.{grevlex}
use Rattle.polynomials.specs.Terms.{Terms}
use Rattle.machines.specs.Elimination.{free_part}
use Rattle.machines.specs.Journal as journal
use Rattle.machines.specs.Journal.{Entry, Begin, Journal}
use Rattle.machines.specs.Machine.{Refusal, Stops}
use Rattle.machines.specs.Machines as machines
use Rattle.machines.specs.Work.{WorkToEnd}
use Rattle.rounds.specs.Analysis.{Setting, starts, block, starting}
use Rattle.rounds.proofs.Lawful.{kept-nothing}
use Rattle.corollaries.specs.Stage.{Stage}
use Rattle.corollaries.specs.Coming.{Comes, Awaits, Refuses}
use Rattle.corollaries.specs.Followed.{IsPastDividends, IsPastDivided}
use Rattle.corollaries.specs.Trace.{Results, with_stage, goes, start_of, alone, list_dividends, link_dividends, stage_of, after, link_from, divide_from}
use Rattle.corollaries.specs.Making.{IsListMade, IsOutMade, IsStartMade, IsRefusedAtLinks, IsStartRefused}
use Rattle.corollaries.proofs.Awaiting.{list_awaits, list_refused, out_awaits, out_refused}
use Rattle.corollaries.proofs.AwaitingRows.{link_rows_await, link_rows_refused, links_end}
use Rattle.corollaries.proofs.Staged.{ones_begin, ones_fit}

-- what the start gives, as a stage
abbrev pub start_stage : List (Terms Fraction) → List (List (Terms Fraction)) → Stage
start_stage out links = record { list = []; gens = []; pairs = []; out = out; links = links }

module _ (A : Setting) (rounds : ℕ) (done : Results) (hs : List (Terms Fraction))
    (begins : starting A starts ≡ hs) (es : List Entry)
    (c : Comes A rounds es (goes (Begin journal.Start) (start_of A done starts))) where
  abbrev first : List Entry
  first = es ++ Begin journal.Start ∷ []

  abbrev ListAwaited : List (Terms Fraction) → List Entry → Type 0
  ListAwaited gs at = Awaits A rounds at journal.Start
      (divide_from A rounds done starts gs [] []) (IsPastDivided A starts gs [])

  -- behind the completion
  none_listed : (gs : List (Terms Fraction)) → list_dividends A starts gs ≡ []
  unfolding list_dividends
  none_listed gs = refl

  listed : (gs : List (Terms Fraction)) (at : List Entry) → IsListMade grevlex hs gs first at
      → ListAwaited gs at
  listed gs at m =
      subst (λ l. ListAwaited l at) (sym m.is)
      (subst (λ js. Awaits A rounds at journal.Start
      (divide_from A rounds done starts m.last.basis [] js)
      (IsPastDivided A starts m.last.basis js)) (none_listed m.last.basis)
      (list_awaits A rounds done starts es c at m.last
      (subst (λ l. WorkToEnd (machines.completion fractions grevlex l).next
      (machines.completion fractions grevlex l).start first at m.last) (sym begins) m.finished)))

  -- behind the tidying
  module _ (gs : List (Terms Fraction)) (at : List Entry) (m : IsListMade grevlex hs gs first at)
    where
      abbrev LinksAwaited : List (Terms Fraction) → List Entry → Type 0
      LinksAwaited out to = Awaits A rounds to journal.Start
          (link_from A rounds done starts (record { list = gs; rows = [] }) out []
          (alone A hs ++ [])) (IsPastDividends grevlex out (alone A hs ++ []) ⊥)

      kept_is : gs ≡ free_part (block A starts) gs
      unfolding block
      kept_is = sym (kept-nothing gs)

      all_linked : link_dividends A starts gs ≡ alone A hs ++ []
      unfolding link_dividends
      all_linked = ap (alone A) begins ∙ sym (append-nil (alone A hs))

      tidied : (out : List (Terms Fraction)) (to : List Entry) → IsOutMade gs out at to
          → LinksAwaited out to
      tidied out to o =
          subst (λ js. Awaits A rounds to journal.Start
          (link_from A rounds done starts (record { list = gs; rows = [] }) out [] js)
          (IsPastDividends grevlex out js ⊥)) all_linked
          (subst (λ l. Awaits A rounds to journal.Start
          (link_from A rounds done starts (record { list = gs; rows = [] }) l []
          (link_dividends A starts gs)) (IsPastDividends grevlex l (link_dividends A starts gs) ⊥))
          (sym o.is) (out_awaits A rounds done starts gs [] gs kept_is
          (ones_begin gs m.monic) at to o.last (listed gs at m) o.finished))

      behind_out : (after : Journal) (r : Refusal) → IsRefusedAtLinks hs after r gs at
          → Refuses A rounds journal.Start after r
      behind_out after r x = link_rows_refused A rounds done starts gs [] gs x.out [] hs [] x.tidied
          after (tidied x.out x.tidied x.made) r x.refused

  stage_is : (gs out : List (Terms Fraction)) (links : List (List (Terms Fraction)))
      → stage_of A starts (record { list = gs; rows = [] }) out links ≡ start_stage out links
  unfolding stage_of
  stage_is gs out links = refl

  pub start_awaits : (out : List (Terms Fraction)) (links : List (List (Terms Fraction)))
      (at : List Entry) → IsStartMade hs out links first at → Comes A rounds at
      (after A rounds (with_stage done starts (start_stage out links)) starts out)
  start_awaits out links at m =
      subst (λ s. Comes A rounds at (after A rounds (with_stage done starts s) starts out))
      (stage_is m.list out links)
      (links_end A rounds done starts m.list [] m.list out links at
      (link_rows_await A rounds done starts m.list [] m.list out [] hs [] links m.tidied at
      (tidied m.list m.listed m.completed out m.tidied m.given) m.divided))

  pub start_refused : (before after : Journal) → before.entries ≡ first → (r : Refusal)
      → IsStartRefused hs after r before → Refuses A rounds journal.Start after r
  start_refused before after at r (inl s) =
      list_refused A rounds done starts es c before after at r
      (subst (λ l. Stops (machines.completion fractions grevlex l) before after r) (sym begins) s)
  start_refused before after at r (inr b) = go b.refused
    where
      made : IsListMade grevlex hs b.list first b.listed.entries
      made = subst (λ l. IsListMade grevlex hs b.list l b.listed.entries) at b.made

      go : Stops (machines.tidying fractions grevlex b.list) b.listed after r
          ⊎ IsRefusedAtLinks hs after r b.list b.listed.entries
          → Refuses A rounds journal.Start after r
      go (inl s) = out_refused A rounds done starts b.list [] b.list
          (kept_is b.list b.listed.entries made) (ones_begin b.list made.monic) b.listed after
          (listed b.list b.listed.entries made) (ones_fit b.list made.monic) r s
      go (inr x) = behind_out b.list b.listed.entries made after r x
