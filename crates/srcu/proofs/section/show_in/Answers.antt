-- The box was found in the section, and its part was paid.
use Rattle.std.proofs.Common.{refl, sym}
use Rattle.driver.proofs.CallerLemmas.{kept_trans}
use Rattle.srcu.proofs.Boxing.{kept_version, kept_caught}
use Rattle.srcu.proofs.section.show_in.Goals as goal

pub returns-in-Ok-clause-shows : goal.returns-in-Ok-clause-shows
returns-in-Ok-clause-shows g c = record {
  pin = c.in-Ok.pin;
  found = c.find.new.cpu.cpu;
  finds = c.in-Ok.ensures.finds;
  shows = (c.part.result.now, c.part.ensures.0, (c.part.result, c.show-shown.ensures, refl));
  value = sym c.part.ensures.1;
  catches = rw c.in-Ok.ensures.finds.section at c.release.ensures.catches;
}

pub returns-in-Ok-clause-kept : goal.returns-in-Ok-clause-kept
returns-in-Ok-clause-kept g c = kept_trans _ _ _ (kept_version _ _ _ _ _ c.in-Ok.ensures.finds.finds c.find.ensures.rest c.find.ensures.stays) (kept_caught _ _ _ _ c.release.ensures.catches c.release.ensures.rest c.release.ensures.stays)

pub returns-in-Err-clause-kept : goal.returns-in-Err-clause-kept
returns-in-Err-clause-kept g c = kept_version _ _ _ _ _ c.in-Err.ensures.finds.finds c.find.ensures.rest c.find.ensures.stays
