-- What an answer up to a degree shows.
--   tells_yes, yes_maps, yes_ends       what a yes tells
--   searches_settled, searches_not_no   statuses of answers
--   told_when_yes, exhausted_when_budget, stop_when_refusing     what each status tells
--   yes_shown                           what a yes shows
use Rattle.std.proofs.Common.{◌≡◌, ◌≢◌, inl, inr, ℕ, List, sym, ◌∙◌, Ok}
use Rattle.algebra.specs.Fraction.{Fraction}
use Rattle.polynomials.specs.Terms.{Terms}
use Rattle.machines.specs.Journal.{Journal}
use Rattle.loops.specs.Program.{Expr, Program}
use Rattle.loop_model.specs.Maps.{AreFree}
use Rattle.loop_text.specs.LoopReader.{loop_of}
use Rattle.io_edge.specs.declared.answer.Status.{Status}
use Rattle.io_edge.specs.declared.answer.Status.TheVariants as status
use Rattle.io_edge.specs.Texts.{Answer}
use Rattle.io_edge.specs.Settled.{IsSettled, IsRefusing}
use Rattle.io_edge.proofs.OfStatuses.{status_of, text_of, settled_yes, settled_budget, refusing_fault, refusing_wide}
use Rattle.replay_commands.proofs.CounterShown.{map_refuses}
use Rattle.closing_commands.specs.declared.evidence.Evidence.{Evidence}
use Rattle.closing_commands.specs.declared.evidence.Evidence.TheVariants as kinds
use Rattle.closing_commands.specs.Degrees.{HasFound, Tells, TellsStop, TellsExhausted, Searches}
use Rattle.closing_commands.specs.DegreeHeadline.{ShowsUpTo}

module _ (l : Program (Expr ℕ)) (d : ℕ) (m : Journal) where
  pub tells_yes : (evidence : Evidence) (a : Answer) → Tells l d m evidence a
      → a.status ≡ status.Yes
  tells_yes kinds.Basis a t = status_of t.says
  tells_yes kinds.Certificate a t = t.yes

  pub yes_maps : (evidence : Evidence) (a : Answer) → Tells l d m evidence a → AreFree l
  yes_maps kinds.Basis a t = t.maps
  yes_maps kinds.Certificate a t = t.maps

  pub yes_ends : (evidence : Evidence) (a : Answer) → Tells l d m evidence a
      → (gs : List (Terms Fraction)) × (hs : List (Terms Fraction))
      × HasFound l d m.entries evidence gs hs
  yes_ends kinds.Basis a t = (t.list, t.closure, t.ends)
  yes_ends kinds.Certificate a t = (t.list, t.closure, t.ends)

  module _ (evidence : Evidence) (n : ℕ) (a : Answer) where
    stop_refuses : TellsStop l d m evidence a → IsRefusing a.status
    stop_refuses (inl t) = map_refuses t.stop a t.says
    stop_refuses (inr (inl t)) = refusing_fault a.status (status_of t.says)
    stop_refuses (inr (inr (inl t))) = refusing_fault a.status (status_of t.says)
    stop_refuses (inr (inr (inr (inl t)))) = refusing_wide a.status (status_of t.says)
    stop_refuses (inr (inr (inr (inr (inl t))))) = refusing_wide a.status (status_of t.says)
    stop_refuses (inr (inr (inr (inr (inr (inl t)))))) = refusing_wide a.status (status_of t.says)
    stop_refuses (inr (inr (inr (inr (inr (inr t)))))) = refusing_wide a.status (status_of t.says)

    module _ (s : Searches l d m evidence n a) where
      by_tells : (Q : Type 0) → (Tells l d m evidence a → a.status ≡ status.Yes → Q)
          → (TellsStop l d m evidence a → IsRefusing a.status → Q)
          → (TellsExhausted l d m evidence n a → a.status ≡ status.Budget → Q) → Q
      by_tells Q finds stops spends = elim s.tells [
        | inl t ↦ finds t (tells_yes evidence a t)
        | inr (inl t) ↦ stops t (stop_refuses t)
        | inr (inr t) ↦ spends t (status_of t.says)
      ]

      pub searches_settled : IsSettled a.status
      searches_settled =
          by_tells (IsSettled a.status) (λ t h. settled_yes a.status h)
          (λ t r. r.plain.settled) (λ t h. settled_budget a.status h)

      differ : (u v : Status) → a.status ≡ u → a.status ≡ v → u ≡ v
      differ u v e f = sym e ∙ f

      pub searches_not_no : a.status ≢ status.No
      searches_not_no is =
          by_tells ⊥ (λ t h. let e = differ _ _ h is in let z : ⊥ = cc in z)
          (λ t r. r.no_not is) (λ t h. let e = differ _ _ h is in let z : ⊥ = cc in z)

      pub told_when_yes : a.status ≡ status.Yes → Tells l d m evidence a
      told_when_yes is =
          by_tells (Tells l d m evidence a) (λ t h. t) (λ t r. absurd (r.yes_not is))
          (λ t h. absurd (let e = differ _ _ h is in let z : ⊥ = cc in z))

      pub exhausted_when_budget : a.status ≡ status.Budget → TellsExhausted l d m evidence n a
      exhausted_when_budget is =
          by_tells (TellsExhausted l d m evidence n a)
          (λ t h. absurd (let e = differ _ _ h is in let z : ⊥ = cc in z))
          (λ t r. absurd (r.plain.budget_not is)) (λ t h. t)

      pub stop_when_refusing : IsRefusing a.status → TellsStop l d m evidence a
      stop_when_refusing r =
          by_tells (TellsStop l d m evidence a) (λ t h. absurd (r.yes_not h)) (λ t k. t)
          (λ t h. absurd (r.plain.budget_not h))

pub yes_shown : (text : List ℕ) (d : ℕ) (l : Program (Expr ℕ)) → loop_of text ≡ Ok l
    → (m : Journal) (a : Answer) (evidence : Evidence) → Tells l d m evidence a
    → ShowsUpTo text d evidence a.text
yes_shown text d l is m a kinds.Basis t = record {
  loop = l;
  is_loop = is;
  list = t.list;
  reduced = t.reduced;
  reads_back = t.reads_back;
  says = text_of t.says;
}
yes_shown text d l is m a kinds.Certificate t = record {
  loop = l;
  is_loop = is;
  list = t.list;
  reduced = t.reduced;
  closure = t.closure;
  is_closure = t.is_closure;
  proof = t.shows;
}
