-- So far as many words were loaded as there were rounds, and the pin is as it was.
use Rattle.std.proofs.Common.{◌≡◌}
use Rattle.srcubench.specs.Finding.{ReadsWords}
use Rattle.srcubench.proofs.finding.read_words.Given as goal

abbrev pub invariant-loop-place : goal.invariant-loop-place
invariant-loop-place g l = record {
  reads : ReadsWords l.place l.initial.pin.section.now l.initial.pin.found l.initial.cpu l.cpu;
  domain : l.cpu.domain ≡ l.initial.cpu.domain;
  reading : l.pin.section.now ≡ l.initial.pin.section.now;
  found : l.pin.found ≡ l.initial.pin.found;
  name : l.pin.section.ghost_name ≡ l.initial.pin.section.ghost_name;
}
