-- How the turns of the program go on.
pub mod Turning
