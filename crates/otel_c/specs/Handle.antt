-- The ownership of a handle: an object in a block of its own, or nothing.
use Rattle.std.specs.Prelude.{Option, None, Some}
use base.Fml.{Fml, feq}
use base.Stored.{Coded}
use mir.Syntax.{Ty}
use denote.RawPtr.{Ptr, null_ptr}
use Rattle.std.specs.Box.Ownership.{box_owns}
use Rattle.std.specs.contracts.impls.GlobalAllocator.TheImpl.{ghosts}
use Rattle.core.specs.contracts.option.Option as option
use Rattle.otel_c.specs.contracts.object.Object.{the_row}

-- the right to free a block of `Global`, which doesn't depend on the handle to the heap
abbrev pub freeable : Ty → Ptr → Fml
freeable = ghosts.dealloc_token (record { memory = record { seal = tt } })

-- the ownership at a pointer: the object, with the right to free its block; nothing at null
abbrev pub handle_owns : Option the_row.Denot → Ptr → Fml
handle_owns None p = feq Ptr p null_ptr
handle_owns (Some object) p = box_owns freeable the_row p object

-- how the logic stores the object of a handle
abbrev pub object_coded : Coded (Option the_row.Denot)
object_coded = (option.the_row the_row).coded
