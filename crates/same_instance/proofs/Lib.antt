pub mod OneInstance
