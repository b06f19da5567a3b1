-- The last reader that is left is started, and stands behind those of lower numbers.
use Rattle.std.proofs.Common.{rules, ◌≡◌, ℕ, length, sym, subst, arith}
use Rattle.race.proofs.Words.{vec_len, Started, HasRead, IsNewReader, IsStarted, number_of}
use Rattle.race.specs.declared.workers.Started.TheVariants.{Thread, Alone}
use Rattle.race.proofs.Placing.{each_popped, last_popped, each_pushed}
use Rattle.race.proofs.workers.+launch_all.Goals as goal

pub spawn_with-requires-clause-runs : goal.spawn_with-requires-clause-runs
spawn_with-requires-clause-runs g t c κs within = let made = (last_popped (IsNewReader c.args.course.now) c.args.readers.now.items c.pop.new.self.items c.in-Some.reader c.in-Some.ensures.items c.requires.each).made in search rules

pub launch_all-requires-clause-each : goal.launch_all-requires-clause-each
launch_all-requires-clause-each g t c κs within = each_popped (IsNewReader c.args.course.now) c.args.readers.now.items c.pop.new.self.items c.in-Some.reader c.in-Some.ensures.items c.requires.each

pub launch_all-requires-in-Err-clause-each : goal.launch_all-requires-in-Err-clause-each
launch_all-requires-in-Err-clause-each g t c κs within = each_popped (IsNewReader c.args.course.now) c.args.readers.now.items c.pop.new.self.items c.in-Some.reader c.in-Some.ensures.items c.requires.each

pub part-requires : goal.part-requires
part-requires g t c κs within = let made = (last_popped (IsNewReader c.args.course.now) c.args.readers.now.items c.pop.new.self.items c.in-Some.reader c.in-Some.ensures.items c.requires.each).made in search rules

pub returns-in-Ok-clause-all : goal.returns-in-Ok-clause-all
returns-in-Ok-clause-all g t c =
    let course = c.args.course.now in
    let Q : ℕ → Started → Type 0 = λ i s. IsStarted course s × (number_of s ≡ i) in
    let is_new = last_popped (IsNewReader course) c.args.readers.now.items c.pop.new.self.items c.in-Some.reader c.in-Some.ensures.items c.requires.each in
    let place = is_new.number_is in
    let here : IsStarted course (Thread c.in-Ok.thread) = search rules in
    let told : number_of (Thread c.in-Ok.thread) ≡ c.in-Some.reader.cpu.cpu.processor = search rules in
    let long : vec_len c.pop.new.self ≡ length c.pop.new.self.items = c.pop.new.self.ok.0 in
    let many : vec_len c.launch_all.new.all ≡ length c.launch_all.new.all.items = c.launch_all.new.all.ok.0 in
    let as_many = c.launch_all.ensures.as_many.0 in
    let number : number_of (Thread c.in-Ok.thread) ≡ length c.launch_all.new.all.items = omega (arith, told, place, long, many, as_many) in
    each_pushed Q c.launch_all.new.all.items c.push_reserved.new.self.items (Thread c.in-Ok.thread) c.push_reserved.ensures.items c.launch_all.ensures.all (here, number)

pub returns-in-Err-clause-all : goal.returns-in-Err-clause-all
returns-in-Err-clause-all g t c =
    let course = c.args.course.now in
    let Q : ℕ → Started → Type 0 = λ i s. IsStarted course s × (number_of s ≡ i) in
    let is_new = last_popped (IsNewReader course) c.args.readers.now.items c.pop.new.self.items c.in-Some.reader c.in-Some.ensures.items c.requires.each in
    let place = is_new.number_is in
    let read : HasRead course c.in-Some.reader.cpu.cpu.processor c.part.result = search rules in
    let told = read.number_is in
    let long : vec_len c.pop.new.self ≡ length c.pop.new.self.items = c.pop.new.self.ok.0 in
    let many : vec_len c.launch_all-in-Err.new.all ≡ length c.launch_all-in-Err.new.all.items = c.launch_all-in-Err.new.all.ok.0 in
    let as_many = c.launch_all-in-Err.ensures.as_many.0 in
    let number : number_of (Alone c.part.result) ≡ length c.launch_all-in-Err.new.all.items = omega (arith, told, place, long, many, as_many) in
    each_pushed Q c.launch_all-in-Err.new.all.items c.push_reserved-in-Err.new.self.items (Alone c.part.result) c.push_reserved-in-Err.ensures.items c.launch_all-in-Err.ensures.all (subst (λ n. HasRead course n c.part.result) (sym told) read, number)
