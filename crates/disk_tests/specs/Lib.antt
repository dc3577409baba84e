pub mod OneFolder
