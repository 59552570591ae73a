use Rattle.std.proofs.Common.{◌≡◌, ◌∙◌, ap, sym, subst, List, ℕ, ◌++◌, ◌∷◌, [], Global, length, ◌<◌}
use Rattle.std.specs.Prelude.{map, string_bytes, None}
use Rattle.std.specs.Str.{IsUtf8}
use Rattle.loop_model.specs.Names.{place_of, AreNames}
use Rattle.loop_model.proofs.NameLaws.{AreNames-push, texts-push, plain-utf8, taken-text, match-ok}
use Rattle.loop_model.proofs.names.Names.push_new.Goals as goal
use Rattle.loop_model.proofs.names.Names.push_new.Goals.{In_ok-insert}

pub unwrap-text-requires : goal.unwrap-text-requires
unwrap-text-requires c = taken-text (IsUtf8 c.args.name.now) _ _ c.from_utf8.result
    c.from_utf8.ensures.cases (plain-utf8 c.args.name.now c.requires.plain)

other : (c : In_ok-insert) → place_of (map (string_bytes {Z = Global}) c.self.inside.set.keys)
    c.args.name.now ≡ None
other c = ap (λ ns. place_of ns c.args.name.now) c.self.view_is ∙ c.requires.other

bytes : (c : In_ok-insert) → string_bytes c.in_ok-name.name ≡ c.args.name.now
bytes c = c.in_ok-name.ensures.ok
    ∙ (match-ok _ _ c.from_utf8.result c.unwrap-text.result c.from_utf8.ensures.cases
    c.unwrap-text.ensures).0

pushed : (c : In_ok-insert) → map (string_bytes {Z = Global}) c.insert.new.self.keys
    ≡ map (string_bytes {Z = Global}) c.self.inside.set.keys ++ c.args.name.now ∷ []
pushed c = texts-push c.self.inside.set.keys c.insert.new.self.keys c.in_ok-name.name
    c.args.name.now (bytes c) (other c) c.in_ok-insert.ensures.keys

pub returns-clause-ok : goal.returns-clause-ok
returns-clause-ok c = pushed c ∙ ap (λ (ns : List (List ℕ)). ns ++ c.args.name.now ∷ [])
    c.self.view_is

pub invariant_of-self-2 : goal.invariant_of-self-2
invariant_of-self-2 c = subst AreNames (sym (pushed c)) (AreNames-push _ c.args.name.now
    c.self.invariant c.requires.plain c.requires.short (other c) (subst (λ (ns : List (List ℕ)).
    length ns < 4096) (sym c.self.view_is) c.requires.room))
