-- The kinds of decoded nodes and branches.
use Rattle.std.specs.Prelude.{Bool, true, false}
use Rattle.scheme.specs.Scheme.{Node, stop, choice, new, call, Branch, absent, silent, send, receive}

abbrev pub is_stop_node : Node → Bool
is_stop_node stop = true
is_stop_node (choice f c) = false
is_stop_node (new r l) = false
is_stop_node (call d) = false

abbrev pub is_new : Node → Bool
is_new stop = false
is_new (choice f c) = false
is_new (new r l) = true
is_new (call d) = false

abbrev pub is_call_node : Node → Bool
is_call_node stop = false
is_call_node (choice f c) = false
is_call_node (new r l) = false
is_call_node (call d) = true

abbrev pub is_silent : Branch → Bool
is_silent absent = false
is_silent (silent l) = true
is_silent (send a z l) = false
is_silent (receive a y l) = false

abbrev pub is_send : Branch → Bool
is_send absent = false
is_send (silent l) = false
is_send (send a z l) = true
is_send (receive a y l) = false

abbrev pub is_receive : Branch → Bool
is_receive absent = false
is_receive (silent l) = false
is_receive (send a z l) = false
is_receive (receive a y l) = true
