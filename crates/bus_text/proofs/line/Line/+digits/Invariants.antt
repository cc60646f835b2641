use Rattle.bus_text.proofs.line.Line.+digits.Given as goal

-- each call has a digit fewer
abbrev pub decreases-digits : goal.decreases-digits
decreases-digits l = l.n
