use Rattle.bus_subsystem.proofs.line_text.LineText.+decimal.Given as goal

-- each call has a digit fewer
abbrev pub decreases-decimal : goal.decreases-decimal
decreases-decimal l = l.n
