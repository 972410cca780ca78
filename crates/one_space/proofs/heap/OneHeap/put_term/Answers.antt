use Rattle.std.proofs.Common.{◌≡◌, ℕ, ◌+◌, ◌-◌, ◌*◌, ◌≤◌, length, Ok, Err, refl, subst, arith}
use Rattle.std.proofs.lemmas.Result.{err_from_is_err_and}
use Rattle.item_build.specs.Reading.{long_bins}
use Rattle.item_build.proofs.Meaning.Written.{is-written}
use Rattle.item_build.proofs.Laid.Chaining.{longs-few}
use Rattle.item_build.proofs.Laid.Joining.{builds-all, finds-all, leaves-all}
use Rattle.item_build.proofs.Meaning.Whole.{words-apart}
use Rattle.item_build.proofs.Turned.Ending.{whole-led}
use Rattle.one_space.proofs.OfHeap.Building.{set-fits, set-gains, set-held, set-inside, set-linked, set-regs, set-room, set-stops}
use Rattle.one_space.proofs.heap.OneHeap.put_term.Goals as goal

pub build-requires-clause-term : goal.build-requires-clause-term
build-requires-clause-term c =
    is-written c.args.names.now c.args.code.now c.requires.term.term (length c.process.result.now.regs) c.requires.term.is c.requires.term.named c.requires.names.few
    (omega (
      arith,
      set-regs c.args.self.now c.requires.ready c.args.row c.requires.row c.args.r c.args.names.now c.args.code.now c.requires.term c.requires.names.few c.args.serial c.requires.can
          c.requires.room c.process.result.now c.process.ensures,
    ))

pub lay_records-n-requires-clause-whole : goal.lay_records-n-requires-clause-whole
lay_records-n-requires-clause-whole c =
    whole-led (length c.args.names.now) 16 c.args.code.now
    (is-written c.args.names.now c.args.code.now c.requires.term.term 16 c.requires.term.is c.requires.term.named c.requires.names.few (omega arith)).whole

pub lay_records-n-requires-clause-words : goal.lay_records-n-requires-clause-words
lay_records-n-requires-clause-words c =
    omega (
      arith,
      set-fits c.args.self.now c.requires.ready c.args.row c.requires.row c.args.r c.args.names.now c.args.code.now c.requires.term c.requires.names.few c.args.serial c.requires.can
          c.requires.room c.process.result.now c.process.ensures,
      words-apart c.args.code.now,
    )

pub build-requires-clause-words : goal.build-requires-clause-words
build-requires-clause-words c =
    omega (
      arith,
      set-fits c.args.self.now c.requires.ready c.args.row c.requires.row c.args.r c.args.names.now c.args.code.now c.requires.term c.requires.names.few c.args.serial c.requires.can
          c.requires.room c.process.result.now c.process.ensures,
      words-apart c.args.code.now,
      c.lay_records-n.ensures.front,
      c.lay_records-n.ensures.back,
    )

pub build-requires-clause-finds : goal.build-requires-clause-finds
build-requires-clause-finds c =
    finds-all c.args.names.now c.args.code.now c.args.self.now.halves.room c.lay_records-n.new.room c.args.self.now.halves.mem c.lay_records-n.new.mem c.lay_records-n.new.row
    c.process.result.now.regs
    c.args.serial c.lay_records-n.result c.lay_records-n.ensures.count c.lay_records-n.ensures.laid c.lay_records-n.ensures.leaves c.lay_records-n.ensures.front
    (set-held c.args.self.now c.requires.ready c.args.row c.requires.row c.args.r c.args.names.now c.args.code.now c.requires.term c.requires.names.few c.args.serial c.requires.can
    c.requires.room c.process.result.now c.process.ensures)

pub returns-in_err-w-clause-gains : goal.returns-in_err-w-clause-gains
returns-in_err-w-clause-gains c =
    let p = err_from_is_err_and c.from_residual.result c.from_residual.ensures.1 in
    rw (p.1, p.2) (set-stops c.args.self.now c.requires.ready c.args.row c.requires.row c.args.r c.args.names.now c.args.code.now c.requires.term c.requires.names.few c.args.serial
    c.requires.can c.requires.room c.process.result.now c.process.ensures c.build.new.mem c.build.new.room (record { serial = c.args.serial; head = c.args.self.now.halves.head })
    c.build.new.making (leaves-all c.args.names.now c.args.code.now c.args.self.now.halves.room c.lay_records-n.new.room c.args.self.now.halves.mem c.lay_records-n.new.mem
    c.lay_records-n.new.row c.process.result.now.regs
    c.args.serial c.lay_records-n.result c.lay_records-n.ensures.count c.lay_records-n.ensures.laid c.lay_records-n.ensures.leaves c.lay_records-n.ensures.front c.build.new.room
    c.build.new.mem (record { serial = c.args.serial; head = c.args.self.now.halves.head }) c.build.new.making (Err c.in_err-w.field-0.0) refl c.build.ensures.leaves
    (set-held c.args.self.now c.requires.ready c.args.row c.requires.row c.args.r c.args.names.now c.args.code.now c.requires.term c.requires.names.few c.args.serial c.requires.can
    c.requires.room c.process.result.now c.process.ensures)) refl c.in_err-w.field-0.0
    (builds-all c.args.names.now c.args.code.now c.args.self.now.halves.room c.lay_records-n.new.room c.args.self.now.halves.mem c.lay_records-n.new.mem c.lay_records-n.new.row
    c.process.result.now.regs
    c.args.serial c.lay_records-n.result c.lay_records-n.ensures.count c.lay_records-n.ensures.laid c.lay_records-n.ensures.leaves c.lay_records-n.ensures.front c.build.new.room
    c.build.new.mem (record { serial = c.args.serial; head = c.args.self.now.halves.head }) c.build.new.making (Err c.in_err-w.field-0.0) refl c.build.ensures.leaves c.in_err-w.ensures.builds))

pub enter_bins-requires-clause-inside : goal.enter_bins-requires-clause-inside
enter_bins-requires-clause-inside c =
    let P : ℕ → Type 0 = λ g. c.args.self.now.halves.room.top + 6 * g ≤ length c.build.new.mem in
    let count : long_bins c.args.code.now ≡ c.build.new.making.serial - c.args.serial = omega (arith, c.in_ok-w.ensures.serial, c.lay_records-n.ensures.count) in
    subst P count
    (set-inside c.args.self.now c.requires.ready c.args.row c.requires.row c.args.r c.args.names.now c.args.code.now c.requires.term c.requires.names.few c.args.serial c.requires.can
    c.requires.room c.process.result.now c.process.ensures c.build.new.mem c.build.new.room (record { serial = c.args.serial; head = c.args.self.now.halves.head }) c.build.new.making
    (leaves-all c.args.names.now c.args.code.now c.args.self.now.halves.room c.lay_records-n.new.room c.args.self.now.halves.mem c.lay_records-n.new.mem c.lay_records-n.new.row
    c.process.result.now.regs
    c.args.serial c.lay_records-n.result c.lay_records-n.ensures.count c.lay_records-n.ensures.laid c.lay_records-n.ensures.leaves c.lay_records-n.ensures.front c.build.new.room
    c.build.new.mem (record { serial = c.args.serial; head = c.args.self.now.halves.head }) c.build.new.making (Ok c.in_ok-w.w) refl c.build.ensures.leaves
    (set-held c.args.self.now c.requires.ready c.args.row c.requires.row c.args.r c.args.names.now c.args.code.now c.requires.term c.requires.names.few c.args.serial c.requires.can
    c.requires.room c.process.result.now c.process.ensures)) refl c.in_ok-w.w
    (builds-all c.args.names.now c.args.code.now c.args.self.now.halves.room c.lay_records-n.new.room c.args.self.now.halves.mem c.lay_records-n.new.mem c.lay_records-n.new.row
    c.process.result.now.regs
    c.args.serial c.lay_records-n.result c.lay_records-n.ensures.count c.lay_records-n.ensures.laid c.lay_records-n.ensures.leaves c.lay_records-n.ensures.front c.build.new.room
    c.build.new.mem (record { serial = c.args.serial; head = c.args.self.now.halves.head }) c.build.new.making (Ok c.in_ok-w.w) refl c.build.ensures.leaves c.in_ok-w.ensures.builds)
    (omega (arith, c.build.ensures.leaves.same_end, c.lay_records-n.ensures.back))
    (omega (arith, c.build.ensures.leaves.same_end, c.lay_records-n.ensures.back, c.lay_records-n.ensures.front, c.build.ensures.few, words-apart c.args.code.now)))

pub enter_bins-requires-clause-room : goal.enter_bins-requires-clause-room
enter_bins-requires-clause-room c =
    omega (
      arith,
      set-room c.args.self.now c.requires.ready c.args.row c.requires.row c.args.r c.args.names.now c.args.code.now c.requires.term c.requires.names.few c.args.serial c.requires.can
          c.requires.room c.process.result.now c.process.ensures c.build.new.mem c.build.new.room (record { serial = c.args.serial; head = c.args.self.now.halves.head }) c.build.new.making
          (leaves-all c.args.names.now c.args.code.now c.args.self.now.halves.room c.lay_records-n.new.room c.args.self.now.halves.mem c.lay_records-n.new.mem c.lay_records-n.new.row
          c.process.result.now.regs
          c.args.serial c.lay_records-n.result c.lay_records-n.ensures.count c.lay_records-n.ensures.laid c.lay_records-n.ensures.leaves c.lay_records-n.ensures.front c.build.new.room
          c.build.new.mem (record { serial = c.args.serial; head = c.args.self.now.halves.head }) c.build.new.making (Ok c.in_ok-w.w) refl c.build.ensures.leaves
          (set-held c.args.self.now c.requires.ready c.args.row c.requires.row c.args.r c.args.names.now c.args.code.now c.requires.term c.requires.names.few c.args.serial c.requires.can
          c.requires.room c.process.result.now c.process.ensures)) refl c.in_ok-w.w
          (builds-all c.args.names.now c.args.code.now c.args.self.now.halves.room c.lay_records-n.new.room c.args.self.now.halves.mem c.lay_records-n.new.mem c.lay_records-n.new.row
          c.process.result.now.regs
          c.args.serial c.lay_records-n.result c.lay_records-n.ensures.count c.lay_records-n.ensures.laid c.lay_records-n.ensures.leaves c.lay_records-n.ensures.front c.build.new.room
          c.build.new.mem (record { serial = c.args.serial; head = c.args.self.now.halves.head }) c.build.new.making (Ok c.in_ok-w.w) refl c.build.ensures.leaves c.in_ok-w.ensures.builds)
          (omega (arith, c.build.ensures.leaves.same_end, c.lay_records-n.ensures.back))
          (omega (arith, c.build.ensures.leaves.same_end, c.lay_records-n.ensures.back, c.lay_records-n.ensures.front, c.build.ensures.few, words-apart c.args.code.now)),
      c.in_ok-w.ensures.serial,
      c.lay_records-n.ensures.count,
    )

pub overflow_add-self : goal.overflow_add-self
overflow_add-self c =
    omega (
      arith,
      set-linked c.args.self.now c.requires.ready c.args.row c.requires.row c.args.r c.args.names.now c.args.code.now c.requires.term c.requires.names.few c.args.serial c.requires.can
          c.requires.room c.process.result.now c.process.ensures c.build.new.mem c.build.new.room (record { serial = c.args.serial; head = c.args.self.now.halves.head }) c.build.new.making
          (leaves-all c.args.names.now c.args.code.now c.args.self.now.halves.room c.lay_records-n.new.room c.args.self.now.halves.mem c.lay_records-n.new.mem c.lay_records-n.new.row
          c.process.result.now.regs
          c.args.serial c.lay_records-n.result c.lay_records-n.ensures.count c.lay_records-n.ensures.laid c.lay_records-n.ensures.leaves c.lay_records-n.ensures.front c.build.new.room
          c.build.new.mem (record { serial = c.args.serial; head = c.args.self.now.halves.head }) c.build.new.making (Ok c.in_ok-w.w) refl c.build.ensures.leaves
          (set-held c.args.self.now c.requires.ready c.args.row c.requires.row c.args.r c.args.names.now c.args.code.now c.requires.term c.requires.names.few c.args.serial c.requires.can
          c.requires.room c.process.result.now c.process.ensures)) refl c.in_ok-w.w
          (builds-all c.args.names.now c.args.code.now c.args.self.now.halves.room c.lay_records-n.new.room c.args.self.now.halves.mem c.lay_records-n.new.mem c.lay_records-n.new.row
          c.process.result.now.regs
          c.args.serial c.lay_records-n.result c.lay_records-n.ensures.count c.lay_records-n.ensures.laid c.lay_records-n.ensures.leaves c.lay_records-n.ensures.front c.build.new.room
          c.build.new.mem (record { serial = c.args.serial; head = c.args.self.now.halves.head }) c.build.new.making (Ok c.in_ok-w.w) refl c.build.ensures.leaves c.in_ok-w.ensures.builds)
          (omega (arith, c.build.ensures.leaves.same_end, c.lay_records-n.ensures.back))
          (omega (arith, c.build.ensures.leaves.same_end, c.lay_records-n.ensures.back, c.lay_records-n.ensures.front, c.build.ensures.few, words-apart c.args.code.now)),
      c.in_ok-w.ensures.serial,
      c.lay_records-n.ensures.count,
      c.bounded.ensures,
      c.build.ensures.leaves.same_len,
      c.lay_records-n.ensures.leaves.same_len,
      longs-few c.args.code.now,
      c.requires.term.few,
    )

pub returns-clause-gains : goal.returns-clause-gains
returns-clause-gains c =
    set-gains c.args.self.now c.requires.ready c.args.row c.requires.row c.args.r c.args.names.now c.args.code.now c.requires.term c.requires.names.few c.args.serial c.requires.can
    c.requires.room c.process.result.now c.process.ensures c.build.new.mem c.build.new.room (record { serial = c.args.serial; head = c.args.self.now.halves.head }) c.build.new.making
    (leaves-all c.args.names.now c.args.code.now c.args.self.now.halves.room c.lay_records-n.new.room c.args.self.now.halves.mem c.lay_records-n.new.mem c.lay_records-n.new.row
    c.process.result.now.regs
    c.args.serial c.lay_records-n.result c.lay_records-n.ensures.count c.lay_records-n.ensures.laid c.lay_records-n.ensures.leaves c.lay_records-n.ensures.front c.build.new.room
    c.build.new.mem (record { serial = c.args.serial; head = c.args.self.now.halves.head }) c.build.new.making (Ok c.in_ok-w.w) refl c.build.ensures.leaves
    (set-held c.args.self.now c.requires.ready c.args.row c.requires.row c.args.r c.args.names.now c.args.code.now c.requires.term c.requires.names.few c.args.serial c.requires.can
    c.requires.room c.process.result.now c.process.ensures)) refl c.in_ok-w.w
    (builds-all c.args.names.now c.args.code.now c.args.self.now.halves.room c.lay_records-n.new.room c.args.self.now.halves.mem c.lay_records-n.new.mem c.lay_records-n.new.row
    c.process.result.now.regs
    c.args.serial c.lay_records-n.result c.lay_records-n.ensures.count c.lay_records-n.ensures.laid c.lay_records-n.ensures.leaves c.lay_records-n.ensures.front c.build.new.room
    c.build.new.mem (record { serial = c.args.serial; head = c.args.self.now.halves.head }) c.build.new.making (Ok c.in_ok-w.w) refl c.build.ensures.leaves c.in_ok-w.ensures.builds)
    (omega (arith, c.build.ensures.leaves.same_end, c.lay_records-n.ensures.back))
    (omega (arith, c.build.ensures.leaves.same_end, c.lay_records-n.ensures.back, c.lay_records-n.ensures.front, c.build.ensures.few, words-apart c.args.code.now))
    c.process_mut-process.result.now c.process_mut-process.ensures.value (c.build.new.making.serial - c.args.serial)
    (omega (arith, c.in_ok-w.ensures.serial, c.lay_records-n.ensures.count)) c.enter_bins.new.bins c.enter_bins.ensures.items c.enter_bins.ensures.capacity
