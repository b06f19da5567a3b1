-- The writers are new ones: the last became that of a cell of boxes, and the one before it that of a registry.
use Rattle.std.proofs.Common.{rules, ◌≡◌, subst, sym, arith}
use Rattle.std.proofs.lemmas.List.Elements.{All-pop}
use Rattle.sections.specs.WriterViews.{WriterView}
use Rattle.boxes.specs.Boxes.{BoxesView, IsCellIn}
use Rattle.boxes.specs.Writing.{IsPlain}
use Rattle.boxes.proofs.CallerLemmas.{writers_at_home}
use Rattle.soak.proofs.run.prepare.Goals as goal

pub unwrap-last-requires : goal.unwrap-last-requires
unwrap-last-requires c =
    let count = c.in_ok-ground.ensures.writers.count in
    let long = c.in_ok-ground.ground.writers.ok.0 in
    c.pop.ensures.variant.1 (omega (arith, count, long))

pub unwrap-other-requires : goal.unwrap-other-requires
unwrap-other-requires c =
    let count = c.in_ok-ground.ensures.writers.count in
    let long = c.in_ok-ground.ground.writers.ok.0 in
    let one = rw c.unwrap-last.ensures at c.pop.ensures.len in
    c.pop-2.ensures.variant.1 (omega (arith, count, long, one))

pub make-made-requires : goal.make-made-requires
make-made-requires c =
    let W : WriterView → Type 0 = λ w. (w.domain ≡ c.in_ok-ground.ground.domain.domain) × IsPlain w in
    let last = All-pop W _ _ _ c.pop.ensures.items (writers_at_home _ _ _ _ c.in_ok-ground.ensures.writers) in
    let other = All-pop W _ _ _ c.pop-2.ensures.items last.0 in
    let writer : W c.unwrap-other.result = rw c.unwrap-other.ensures at other.1 in
    (search rules, (c.in-Ok.ensures.here, (writer.0, writer.1)))

pub unwrap-writer-requires : goal.unwrap-writer-requires
unwrap-writer-requires c =
    let count = c.in_ok-ground.ensures.writers.count in
    let long = c.in_ok-ground.ground.writers.ok.0 in
    let one = rw c.unwrap-last.ensures at c.pop.ensures.len in
    let two = rw c.unwrap-other.ensures at c.pop-2.ensures.len in
    c.pop-3.ensures.variant.1 (omega (arith, count, long, one, two))

pub staff-requires : goal.staff-requires
staff-requires c =
    let room = c.in_ok-room.ensures.workers in
    let ground = c.in_ok-ground.ensures in
    let In : BoxesView → Type 0 = IsCellIn c.in_ok-ground.ground.domain in
    let cpus = ground.cpus.0 in
    let cells = ground.cells in
    let free = room.1 in record {
      cpus = ground.cpus.1;
      boxes = subst In (sym c.in-Ok.ensures.boxes) c.in-Ok.ensures.writer.0;
      users = subst In (sym c.in-Ok-made.ensures.users) c.in-Ok-made.ensures.registry;
      cell = omega (arith, cells);
      room = (room.0, omega (arith, free, cpus));
    }

pub returns : goal.returns
returns c =
    let room = c.in_ok-room.ensures in
    let ground = c.in_ok-ground.ensures in
    let W : WriterView → Type 0 = λ w. (w.domain ≡ c.in_ok-ground.ground.domain.domain) × IsPlain w in
    let last = All-pop W _ _ _ c.pop.ensures.items (writers_at_home _ _ _ _ ground.writers) in
    let other = All-pop W _ _ _ c.pop-2.ensures.items last.0 in
    let first = All-pop W _ _ _ c.pop-3.ensures.items other.0 in
    let writer : W c.unwrap-writer.result = rw c.unwrap-writer.ensures at first.1 in
    let workers = c.in_ok-workers.ensures.as_many in
    let seven = ground.cpus.0 in
    let ten = room.parts.1 in record {
      many = omega (arith, workers, seven);
      all = c.in_ok-workers.ensures.all;
      driver = ground.driver;
      updater = record {
        here = c.in-Ok-made.ensures.here;
        writes = writer.0;
        boxes = c.in-Ok.ensures.writer.0;
        devices = c.in-Ok-made.ensures.registry;
      };
      stop = ground.stop;
      cpus = (room.parts.0, omega (arith, ten, workers, seven));
    }
