-- The object of a handle, by its kind.
use Rattle.std.specs.Prelude.{Option, None, Some}
use Rattle.otel_context.specs.Context.{ContextRecord}
use Rattle.otel_context.specs.Stack.{StackState}
use Rattle.otel_http.specs.Headers.{Headers}
use Rattle.otel_c.specs.Status.{IsOtherKind}
use Rattle.otel_c.specs.declared.status.Status.{Status}
use Rattle.otel_c.specs.declared.object.Object.{Object}
use Rattle.otel_c.specs.declared.object.Object.TheVariants as object

-- the headers, if it holds headers
abbrev pub headers_of : Option Object → Option Headers
headers_of None = None
headers_of (Some (object.Headers injector)) = Some injector.headers
headers_of (Some (object.Context context)) = None
headers_of (Some (object.Stack stack)) = None

-- the context, if it holds a context
abbrev pub context_of : Option Object → Option ContextRecord
context_of None = None
context_of (Some (object.Headers injector)) = None
context_of (Some (object.Context context)) = Some context
context_of (Some (object.Stack stack)) = None

-- the stack, if it holds a stack
abbrev pub stack_of : Option Object → Option StackState
stack_of None = None
stack_of (Some (object.Headers injector)) = None
stack_of (Some (object.Context context)) = None
stack_of (Some (object.Stack stack)) = Some stack

-- the handle is empty, and the status says so
abbrev pub IsEmpty : Option Object → Status → Type 0
IsEmpty object s = IsOtherKind (headers_of object) s
    × (IsOtherKind (context_of object) s × IsOtherKind (stack_of object) s)
