-- The processors and the seats are new ones, and the last processor is the updater's.
use Rattle.std.proofs.Common.{◌≡◌, ℕ, ◌<◌, ◌+◌, vec_len, length, refl, sym, ap, ◌∙◌, subst, arith}
use Rattle.race.proofs.Words.{All-pop, most_sections, WriterView, with_cpu, writers_here, Course, IsNewCpu}
use Rattle.sections.specs.declared.limits.Limits.{Limits}
use Rattle.sections.specs.Making.{bounds_of}
use Rattle.shelf.specs.Cells.{IsCellIn}
use Rattle.race.proofs.Seating.{popped, made_cpus, new_updater}
use Rattle.race.proofs.making.prepare.Goals as goal

abbrev limits : Limits
limits = record { sections = most_sections; periods = 576460752303423487; cells = 1; slots = 4 }

pub seat_all-readers-requires-clause-course : goal.seat_all-readers-requires-clause-course
seat_all-readers-requires-clause-course c =
    let course : Course = record { domain = c.in-Ok.domain; desk = c.in_ok-desk.desk; view = c.new-table.result.1; rounds = c.args.rounds; line = c.new-line.result } in
    let all = made_cpus course (bounds_of (c.args.many + 1) limits) c.in-Ok.cpus.items c.in-Ok.ensures.made c.in-Ok.ensures.all.here refl in
    let last : IsNewCpu course (length c.pop.new.self.items) c.unwrap-cpu.result = rw c.unwrap-cpu.ensures at (popped (IsNewCpu course) c.in-Ok.cpus.items c.pop.new.self.items _ c.pop.ensures.items all).1 in
    let W : WriterView → Type 0 = λ w. (w.domain ≡ c.in-Ok.domain.domain) × (w.cell < 1) in
    let writer : W c.unwrap.result = rw c.unwrap.ensures at (All-pop W _ _ _ c.pop-2.ensures.items (writers_here _ _ _ _ c.in-Ok.ensures.writers)).1 in
    let cells = c.in-Ok.ensures.cells in
    let cell = c.new-table.ensures.cell in
    let low = writer.1 in record {
      home = c.in_ok-desk.ensures.desk.0 ∙ (c.home.ensures.home ∙ (ap (λ z. z.domain) c.deref_mut.ensures.shows ∙ last.here.domain));
      cell = subst (IsCellIn c.in-Ok.domain.domain) (sym cell) (writer.0, omega (arith, cells, low));
      few = c.requires.rounds;
    }

pub seat_all-readers-requires-clause-cpus : goal.seat_all-readers-requires-clause-cpus
seat_all-readers-requires-clause-cpus c =
    let course : Course = record { domain = c.in-Ok.domain; desk = c.in_ok-desk.desk; view = c.new-table.result.1; rounds = c.args.rounds; line = c.new-line.result } in
    let all = made_cpus course (bounds_of (c.args.many + 1) limits) c.in-Ok.cpus.items c.in-Ok.ensures.made c.in-Ok.ensures.all.here refl in
    (popped (IsNewCpu course) c.in-Ok.cpus.items c.pop.new.self.items _ c.pop.ensures.items all).0

pub returns : goal.returns
returns c =
    let course : Course = record { domain = c.in-Ok.domain; desk = c.in_ok-desk.desk; view = c.new-table.result.1; rounds = c.args.rounds; line = c.new-line.result } in
    let all = made_cpus course (bounds_of (c.args.many + 1) limits) c.in-Ok.cpus.items c.in-Ok.ensures.made c.in-Ok.ensures.all.here refl in
    let last : IsNewCpu course (length c.pop.new.self.items) c.unwrap-cpu.result = rw c.unwrap-cpu.ensures at (popped (IsNewCpu course) c.in-Ok.cpus.items c.pop.new.self.items _ c.pop.ensures.items all).1 in
    let after = with_cpu c.home.new.self c.unwrap-cpu.result in
    let cpu : IsNewCpu course (length c.pop.new.self.items) after = subst (IsNewCpu course (length c.pop.new.self.items)) (sym (ap (λ z. with_cpu z c.unwrap-cpu.result) (c.home.ensures.same ∙ c.deref_mut.ensures.shows))) last in
    let W : WriterView → Type 0 = λ w. (w.domain ≡ c.in-Ok.domain.domain) × (w.cell < 1) in
    let writer : W c.unwrap.result = rw c.unwrap.ensures at (All-pop W _ _ _ c.pop-2.ensures.items (writers_here _ _ _ _ c.in-Ok.ensures.writers)).1 in
    let count = c.in-Ok.ensures.made.count in
    let cpus_long : vec_len c.in-Ok.cpus ≡ length c.in-Ok.cpus.items = c.in-Ok.cpus.ok.0 in
    let rest_long : vec_len c.pop.new.self ≡ length c.pop.new.self.items = c.pop.new.self.ok.0 in
    let one = rw c.unwrap-cpu.ensures at c.pop.ensures.cases in
    let cells = c.in-Ok.ensures.cells in
    let cell = c.new-table.ensures.cell in
    let low = writer.1 in
    let readers_long : vec_len c.seat_all-readers.result ≡ length c.seat_all-readers.result.items = c.seat_all-readers.result.ok.0 in
    let seats_long : vec_len c.in_ok-desk.seats ≡ length c.in_ok-desk.seats.items = c.in_ok-desk.seats.ok.0 in
    let dealt = c.in_ok-desk.ensures.seats.count in
    let seats = c.in_ok-desk.ensures.desk.1 in
    let as_many = c.seat_all-readers.ensures.as_many in
    let number = cpu.number_is in record {
      course = record {
        home = c.in_ok-desk.ensures.desk.0 ∙ (c.home.ensures.home ∙ (ap (λ z. z.domain) c.deref_mut.ensures.shows ∙ last.here.domain));
        cell = subst (IsCellIn c.in-Ok.domain.domain) (sym cell) (writer.0, omega (arith, cells, low));
        few = c.requires.rounds;
      };
      rounds_are = refl;
      seats = seats;
      processors = c.in-Ok.ensures.made.many;
      periods = ap (λ (n : ℕ). n + 1) c.in-Ok.ensures.made.limit;
      cells = cells;
      workers = record {
        many = omega (arith, readers_long, seats_long, dealt, as_many);
        each = c.seat_all-readers.ensures.each;
        updater = new_updater course (length c.pop.new.self.items) after c.new-table.result.0 cpu (ap (λ (w : WriterView). w.domain) c.new-table.ensures.writer ∙ writer.0);
        last = omega (arith, number, count, cpus_long, rest_long, one, seats);
      };
      room = c.in_ok-room.ensures.parts;
    }
