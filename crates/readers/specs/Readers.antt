-- The two readers of a listing: document 02, request 7. Assumes nothing.
use Rattle.lines.specs.Lines.{Lines, billing}
use Rattle.crew.specs.Crew.{crew}
use Rattle.readers.specs.declared.Reader.{Reader}
use Rattle.readers.specs.declared.Reader.TheVariants.{Billing, Crew}

-- "Billing sees serial and message. The radio crew sees serial, profile, rounds, leaf count, mended places and refusal"
abbrev pub lines_for : Reader → Lines
lines_for Billing = billing
lines_for Crew = crew
