use Rattle.closed_forms.proofs.begins.Comparison.+least.Given as goal

abbrev pub decreases-least : goal.decreases-least
decreases-least l = l.since
