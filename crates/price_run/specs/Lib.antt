pub mod RunState
