-- Orders has the numbers, Steps how a call goes on, Rows that there is room for what is said, and the end.
mod Orders
mod Steps
mod Rows
